-- What a contract sees of numbered pieces in order, as they are kept.
use Rattle.std.specs.Prelude.{ℕ, List}
use Rattle.piece_list.specs.Piece.{Piece}
use Rattle.piece_list.specs.Values.{Values}

-- the pieces in order, each under its number, the values of their registers, and how many more pieces take no memory
pub record Ringed : Type 0 where
  pub items : List (ℕ × Piece)
  pub values : Values
  pub room : ℕ
