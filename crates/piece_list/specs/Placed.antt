-- Where a run is inserted.
use Rattle.std.specs.Prelude.{◌≡◌, ℕ, ◌+◌, List, ◌++◌, take, drop}
use Rattle.looks.specs.declared.key.Key.{Key}
use Rattle.char_files.specs.declared.name.Anchor.{Anchor}
use Rattle.tree_order.specs.Insertion.{IsJustAfter}
use Rattle.tree_order.specs.AtomInsertion.{IsLongest}
use Rattle.tree_order.specs.Registers.{Atom}
use Rattle.piece_list.specs.Spelled.{names_of_atoms}

-- new is old with this run inserted directly after the cause and the longest stretch of characters of greater
-- key that follows it
pub record IsPlaced (key : Key) (cause : Anchor) (run old new : List Atom) : Type 0 where
  pub before : ℕ
  pub skipped : ℕ
  pub after : IsJustAfter (names_of_atoms old) cause before
  pub longest : IsLongest key old before skipped
  pub placed : new ≡ take (before + skipped) old ++ run ++ drop (before + skipped) old
