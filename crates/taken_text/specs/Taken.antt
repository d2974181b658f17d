-- The operations that were taken in, and the characters that they make.
use Rattle.std.specs.Prelude.{◌≡◌, ℕ, List, map, filter, length, slice_index, slice_range}
use Rattle.char_files.specs.CharFiles.{FilesBySite, bytes_of}
use Rattle.char_files.specs.CharName.{CharName}
use Rattle.char_files.specs.declared.character.Char.{Char}
use Rattle.operations.specs.NameSet.{Range, set_of}
use Rattle.operations.specs.Operation.{Operation}
use Rattle.tree_order.specs.Good.{Good}
use Rattle.tree_order.specs.Registers.{Atom, AreAtoms, atom_looks}
use Rattle.tree_order.specs.Shown.{AreChars, is_visible}
use Rattle.tree_order.specs.Tree.{HasByte}
use Rattle.set_laws.specs.Fronts.{file_len}
use Rattle.set_laws.specs.Sets.{AreIdentified, KeepsCauses}
use Rattle.piece_list.specs.Spelled.{spelled, shown_chars}
use Rattle.piece_list.specs.Piece.{Piece}

-- the operations in the order of taking, and all characters in order, deleted ones too; and how many operations
-- there were when the changes were last asked for
pub record TakenSeen : Type 0 where
  pub operations : List Operation
  pub chars : List Char
  pub asked : ℕ

-- the operations are good, and were taken in in an order that keeps causes; seqs count from 1, and the characters
-- are theirs
pub record IsDefined (t : TakenSeen) : Type 0 where
  pub good : Good t.operations
  pub in_order : KeepsCauses t.operations
  pub identified : AreIdentified t.operations
  pub chars : AreChars t.operations t.chars

-- what is shown: the visible ones of all characters, in their order
abbrev pub shown_of_taken : TakenSeen → List Char
shown_of_taken t = filter (λ c. is_visible t.operations c.name) t.chars

-- the names of the characters that are shown from beg to end, as a set
abbrev pub names_between : TakenSeen → ℕ → ℕ → List Range
names_between t beg end = set_of (map (λ c. c.name) (slice_range (shown_of_taken t) beg end))

-- an atom with its byte
abbrev pub char_in : FilesBySite → Atom → Char
char_in files k = record {
  name = k.name;
  byte = slice_index (bytes_of files k.name.site) k.name.off;
  looks = atom_looks k;
}

-- what a log, pieces and files are seen as together, of which so many operations were told
abbrev pub seen_in : List Operation → List (ℕ × Piece) → FilesBySite → ℕ → TakenSeen
seen_in ops items files asked =
    record { operations = ops; chars = map (char_in files) (spelled items); asked = asked }

-- what the pieces show, with the files' bytes
abbrev pub chars_shown : List (ℕ × Piece) → FilesBySite → List Char
chars_shown items files = map (char_in files) (shown_chars (spelled items))

-- the files have the bytes of all Inserts, and no others
pub record HoldBytes (ops : List Operation) (files : FilesBySite) : Type 0 where
  pub lengths : (site : ℕ) → length (bytes_of files site) ≡ file_len ops site
  pub bytes : (c : CharName) (byte : ℕ) → HasByte ops c byte
      → byte ≡ slice_index (bytes_of files c.site) c.off

-- the operations are good, and keep causes in their order; the pieces spell their characters in order, and the
-- files have the bytes
pub record IsTaken (ops : List Operation) (items : List (ℕ × Piece)) (files : FilesBySite) : Type 0 where
  pub good : Good ops
  pub in_order : KeepsCauses ops
  pub identified : AreIdentified ops
  pub atoms : AreAtoms ops (spelled items)
  pub bytes : HoldBytes ops files
