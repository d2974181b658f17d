-- A piece: neighbouring characters of a site's file that one Insert typed, or a row of Inserts of one character, and that all
-- changes since then took alike.
use Rattle.std.specs.Prelude.{ℕ, ℤ, Bool, List, Option}
use Rattle.looks.specs.declared.key.Key.{Key}

-- a register of a piece's characters: its value, and the key under which it was set; none where it is as it was inserted
pub record PieceRegister (V : Type 0) : Type 0 where
  pub by : Option Key
  pub value : V

-- The names from an offset in a site's file on, the key of the first one's Insert, and the registers that they share. Where keys rise,
-- each next character's Insert has a stamp one greater; else all are of one Insert.
pub record Piece : Type 0 where
  pub site : ℕ
  pub off : ℕ
  pub len : ℕ
  pub key : Key
  pub rising : Bool
  pub font : PieceRegister (List ℕ)
  pub colour : PieceRegister ℕ
  pub offset : PieceRegister ℤ
  pub hidden : PieceRegister Bool
