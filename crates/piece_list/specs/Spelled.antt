-- What a list of numbered pieces spells: all characters in order, hidden ones too, each with its registers.
use Rattle.std.specs.Prelude.{ℕ, List, map, not, All, Contains}
use Rattle.std.specs.List.{flat_map, filter}
use Rattle.char_files.specs.CharName.{CharName}
use Rattle.tree_order.specs.Registers.{Atom}
use Rattle.piece_list.specs.Piece.{Piece}
use Rattle.piece_list.specs.Pieces.{chars_of, IsPiece}

-- the characters of all pieces, one piece after the other
abbrev pub spelled : List (ℕ × Piece) → List Atom
spelled items = flat_map (λ m. chars_of m.1) items

-- the names of characters
abbrev pub names_of_atoms : List Atom → List CharName
names_of_atoms chars = map (λ k. k.name) chars

-- one of the characters has this name
abbrev pub HasName : List Atom → CharName → Type 0
HasName chars c = Contains (names_of_atoms chars) c

-- those that aren't hidden
abbrev pub shown_chars : List Atom → List Atom
shown_chars chars = filter (λ k. not k.hidden.value) chars

-- no piece is empty, too long, or past its site's file
abbrev pub ArePieces : List (ℕ × Piece) → Type 0
ArePieces items = All (λ m. IsPiece m.1) items
