-- What a piece says of its characters.
use Rattle.std.specs.Prelude.{◌≡◌, ℕ, ◌+◌, ◌-◌, ◌^◌, ◌<◌, ◌≤◌, Bool, true, false, List, map, Option, None, Some, if◌then◌else◌}
use Rattle.looks.specs.Key.{is_below}
use Rattle.looks.specs.Sel.{Selection}
use Rattle.looks.specs.declared.key.Key.{Key}
use Rattle.looks.specs.declared.looks.Looks.{Looks}
use Rattle.looks.specs.declared.register.Register.{Register}
use Rattle.char_files.specs.CharName.{CharName}
use Rattle.char_files.specs.declared.TheConstants.{MAX_FILE}
use Rattle.operations.specs.NameSet.{Range, names_of}
use Rattle.tree_order.specs.Registers.{Atom}
use Rattle.piece_list.specs.Piece.{Piece, PieceRegister}
use Rattle.piece_list.specs.declared.piece.TheConstants.{MAX_PIECE}
use Rattle.piece_list.specs.declared.run.Run.{Run}

-- the names of its characters
abbrev pub range_of : Piece → Range
range_of p = record { site = p.site; at = p.off; len = p.len }

-- the key of a character, where the one at this offset has this key: the same, or one that rose by a stamp a character
abbrev pub key_from : (rising : Bool) → Key → (off : ℕ) → CharName → Key
key_from false key off c = key
key_from true key off c = record { stamp = key.stamp + c.off - off; site = key.site }

-- the key of its character of this name
abbrev pub key_of_name : Piece → CharName → Key
key_of_name p c = key_from p.rising p.key p.off c

-- the key under which a register was set: the character's own where it is as it was inserted
abbrev pub set_under : Option Key → (own : Key) → Key
set_under None own = own
set_under (Some key) own = key

-- the register of a character that has this key
abbrev pub register_of : {V : Type 0} → PieceRegister V → (own : Key) → Register V
register_of r own = record { key = set_under r.by own; value = r.value }

-- a character of this name, with its key and the piece's registers
abbrev pub char_of : Piece → CharName → Atom
char_of p c = record {
  name = c;
  key = key_of_name p c;
  font = register_of p.font (key_of_name p c);
  colour = register_of p.colour (key_of_name p c);
  offset = register_of p.offset (key_of_name p c);
  hidden = register_of p.hidden (key_of_name p c);
}

-- its characters
abbrev pub chars_of : Piece → List Atom
chars_of p = map (char_of p) (names_of (range_of p))

-- one character at least and 4,096 at most, all of them within the file of a site, whose number has 16 bits; and stamps that rise have
-- 64 bits
abbrev pub IsPiece : Piece → Type 0
IsPiece p = (0 < p.len) × (p.len ≤ MAX_PIECE) × (p.off + p.len ≤ MAX_FILE) × (p.site < 2 ^ 16)
    × (p.rising ≡ true → p.key.stamp + p.len ≤ 2 ^ 64)

-- the first n of its characters
abbrev pub piece_front : ℕ → Piece → Piece
piece_front n p = record p { len = n }

-- the key so many characters on
abbrev pub risen : (rising : Bool) → ℕ → Key → Key
risen false n key = key
risen true n key = record { stamp = key.stamp + n; site = key.site }

-- the others, from their own first key on
abbrev pub rest_of : ℕ → Piece → Piece
rest_of n p = record p { off = p.off + n; len = p.len - n; key = risen p.rising n p.key }

-- n characters more at its end
abbrev pub longer : ℕ → Piece → Piece
longer n p = record p { len = p.len + n }

-- q goes on where p ends, so that one piece may hold both
abbrev pub GoesOn : (p q : Piece) → Type 0
GoesOn p q = (q ≡ rest_of p.len (longer q.len p)) × (p.len + q.len ≤ MAX_PIECE)

-- the register as an Insert leaves it
abbrev pub inserted : {V : Type 0} → V → PieceRegister V
inserted value = record { by = None; value = value }

-- the piece of a run: all is as it was inserted, and nothing is hidden
abbrev pub piece_of : Run → Piece
piece_of r = record {
  site = r.site;
  off = r.off;
  len = r.len;
  key = r.key;
  rising = r.rising;
  font = inserted r.looks.font;
  colour = inserted r.looks.colour;
  offset = inserted r.looks.offset;
  hidden = inserted false;
}

-- what was set gives way to what is set under a greater key, and what was inserted to all that is set
abbrev pub gives_way : Option Key → Key → Bool
gives_way None key = true
gives_way (Some set) key = is_below set key

-- a value set under a key
abbrev pub offered_to : {V : Type 0} → PieceRegister V → Key → V → PieceRegister V
offered_to r key value = if gives_way r.by key then record { by = Some key; value = value } else r

-- a value set, where it is selected
abbrev pub offered_to_if : {V : Type 0} → Bool → PieceRegister V → Key → V → PieceRegister V
offered_to_if selected r key value = if selected then offered_to r key value else r

-- the same characters, hidden or shown again
abbrev pub switched_piece : Bool → Key → Piece → Piece
switched_piece hidden key p = record p { hidden = offered_to p.hidden key hidden }

-- the same characters, relooked attribute by attribute
abbrev pub relooked_piece : Selection → Looks → Key → Piece → Piece
relooked_piece sel looks key p = record p {
  font = offered_to_if sel.font p.font key looks.font;
  colour = offered_to_if sel.colour p.colour key looks.colour;
  offset = offered_to_if sel.offset p.offset key looks.offset;
}
