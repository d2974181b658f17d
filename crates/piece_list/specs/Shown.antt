-- What a list of characters shows, one by one and in stretches.
use Rattle.std.specs.Prelude.{◌≡◌, ℕ, ◌+◌, not, List, map, take, length, slice_get, Some}
use Rattle.std.specs.List.{filter}
use Rattle.looks.specs.declared.key.Key.{Key}
use Rattle.looks.specs.declared.looks.Looks.{Looks}
use Rattle.char_files.specs.CharName.{CharName}
use Rattle.operations.specs.NameSet.{names_of}
use Rattle.tree_order.specs.Registers.{Atom, atom_looks}
use Rattle.piece_list.specs.Piece.{Piece}
use Rattle.piece_list.specs.Pieces.{key_from}
use Rattle.piece_list.specs.declared.run.Run.{Run}
use Rattle.piece_list.specs.Spelled.{names_of_atoms, shown_chars}

-- what is told of a character that is shown: its name, the key of its Insert, and its looks
pub record Appearance : Type 0 where
  pub name : CharName
  pub key : Key
  pub looks : Looks

-- what is told of an atom
abbrev pub appearance_of : Atom → Appearance
appearance_of k = record { name = k.name; key = k.key; looks = atom_looks k }

-- what a run tells of its character of this name
abbrev pub appearance_in : Run → CharName → Appearance
appearance_in r c = record { name = c; key = key_from r.rising r.key r.off c; looks = r.looks }

-- what a run tells of its characters
abbrev pub appearances_in : Run → List Appearance
appearances_in r = map (appearance_in r) (names_of (record { site = r.site; at = r.off; len = r.len }))

-- the looks of a piece's characters
abbrev pub looks_of : Piece → Looks
looks_of p = record { font = p.font.value; colour = p.colour.value; offset = p.offset.value }

-- a piece as a run
abbrev pub piece_run : Piece → Run
piece_run p = record {
  site = p.site;
  off = p.off;
  len = p.len;
  key = p.key;
  rising = p.rising;
  looks = looks_of p;
}

-- the pieces that aren't hidden, as runs
abbrev pub shown_runs : List (ℕ × Piece) → List Run
shown_runs items = map (λ m. piece_run m.1) (filter (λ m. not m.1.hidden.value) items)

-- so many of the characters up to the one of this name are shown, itself among them
abbrev pub AreShownTo : List Atom → CharName → ℕ → Type 0
AreShownTo chars c n =
    (k : ℕ) → slice_get (names_of_atoms chars) k ≡ Some c → n ≡ length (shown_chars (take (k + 1) chars))
