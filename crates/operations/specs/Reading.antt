-- Reading from left to right. Each function gives the value that the front of the bytes spells, and the bytes
-- after it.
use Rattle.std.specs.Prelude.{◌≡◌, ℕ, ℤ, zero, suc, ◌+◌, ◌-◌, ◌/◌, ◌%◌, ◌^◌, ◌⊎◌, Bool, true, nat_lt}
use Rattle.std.specs.Prelude.{nat_le, ◌==◌, ◌&&◌, ◌||◌, not, if◌then◌else◌, List, [], ◌∷◌, ◌++◌, length}
use Rattle.std.specs.Prelude.{slice_index, Option, Some, None, IsSome, Result, Ok}
use Rattle.std.specs.Prelude.{Err}
use Rattle.std.specs.Char.{is_ascii_alphabetic}
use Rattle.std.specs.List.{list_all}
use Rattle.std.specs.Option.{option_map_or}
use Rattle.std.specs.Int.{w8, w16, w32, w64, cast_signed}
use Rattle.byte_fields.specs.Fields.{◌>>=◌, stretch_at, number_at, positive_at, byte_at}
use Rattle.looks.specs.declared.refusal.Refusal.{Refusal}
use Rattle.looks.specs.declared.refusal.Refusal.TheVariants.{Malformed, OutOfMemory}
use Rattle.looks.specs.declared.colour.TheConstants.{MAX_COLOUR}
use Rattle.looks.specs.declared.font_name.TheConstants.{MAX_FONT_NAME}
use Rattle.looks.specs.declared.looks.Looks.{Looks}
use Rattle.looks.specs.FontName.{is_font_byte}
use Rattle.looks.specs.Looks.{IsLooks, plain_looks}
use Rattle.looks.specs.Sel.{Selection}
use Rattle.char_files.specs.declared.name.Anchor.{Anchor}
use Rattle.char_files.specs.declared.name.Anchor.TheVariants.{Root, At}
use Rattle.char_files.specs.declared.TheConstants.{MAX_FILE}
use Rattle.operations.specs.declared.kind.TheConstants.{MAX_INSERT}
use Rattle.operations.specs.declared.name_set.TheConstants.{MAX_RANGES}
use Rattle.operations.specs.declared.op.TheConstants.{MAX_STAMP}
use Rattle.operations.specs.NameSet.{Range, comes_before}
use Rattle.operations.specs.Operation.{OpKind, insert, delete, restore, change_looks, Operation}
use Rattle.operations.specs.Spelling.{HasSpelling, version_byte, looks_spelling, spelling}

-- the same of a function that takes memory, which can be refused only where reading finds a value
abbrev pub FindsWithMemory : {X Y : Type 0} → (X → Y) → Result X Refusal → Option Y → Type 0
FindsWithMemory view (Ok x) read = read ≡ Some (view x)
FindsWithMemory view (Err e) read = ((e ≡ Malformed) × (read ≡ None)) ⊎ ((e ≡ OutOfMemory) × IsSome read)

-- 1 to 31 letters, digits and full stops, the first a letter
abbrev pub is_font_name : List ℕ → Bool
is_font_name bytes =
    nat_lt 0 (length bytes) && nat_le (length bytes) MAX_FONT_NAME
    && is_ascii_alphabetic (slice_index bytes 0) && list_all is_font_byte bytes

-- a font's name after its length
unfoldable pub font_at : List ℕ → Option (List ℕ × List ℕ)
font_at bytes = do
  len ← byte_at bytes
  name ← stretch_at len.0 len.1
  if is_font_name name.0 then Some name else None

-- a colour to 15
unfoldable pub colour_at : List ℕ → Option (ℕ × List ℕ)
colour_at bytes = do
  colour ← byte_at bytes
  if nat_le colour.0 MAX_COLOUR then Some colour else None

-- an offset in two's complement
unfoldable pub offset_at : List ℕ → Option (ℤ × List ℕ)
offset_at bytes = do
  offset ← byte_at bytes
  Some (cast_signed w8 offset.0, offset.1)

-- looks: the font, the colour, the offset
unfoldable pub looks_at : List ℕ → Option (Looks × List ℕ)
looks_at bytes = do
  font ← font_at bytes
  colour ← colour_at font.1
  offset ← offset_at colour.1
  Some (record { font = font.0; colour = colour.0; offset = offset.0 }, offset.1)

-- looks, and how many bytes spell them
unfoldable pub looks_len_at : List ℕ → Option (Looks × ℕ)
looks_len_at bytes = do
  looks ← looks_at bytes
  Some (looks.0, length bytes - length looks.1)

-- a value where it is selected, else the default, which takes no bytes
abbrev pub selected_or :
    {A : Type 0} → Bool → A → (List ℕ → Option (A × List ℕ)) → List ℕ → Option (A × List ℕ)
selected_or selected default reader bytes = if selected then reader bytes else Some (default, bytes)

-- the looks of which the selected values alone stand there
unfoldable pub selected_at : Selection → List ℕ → Option (Looks × List ℕ)
selected_at sel bytes = do
  font ← selected_or sel.font plain_looks.font font_at bytes
  colour ← selected_or sel.colour plain_looks.colour colour_at font.1
  offset ← selected_or sel.offset plain_looks.offset offset_at colour.1
  Some (record { font = font.0; colour = colour.0; offset = offset.0 }, offset.1)

-- what a selection's bits select
abbrev pub selection_of : ℕ → Selection
selection_of bits = record { font = bits % 2 == 1; colour = (bits / 2) % 2 == 1; offset = bits / 4 == 1 }

-- a selection: bits from 1 to 7
unfoldable pub sel_at : List ℕ → Option (Selection × List ℕ)
sel_at bytes = do
  bits ← byte_at bytes
  if nat_lt 0 bits.0 && nat_lt bits.0 8 then Some (selection_of bits.0, bits.1) else None

-- the root is offset 0 of site 0, which has no other one; an offset in a site's file is below MAX_FILE
abbrev pub checked_anchor : ℕ → ℕ → Option Anchor
checked_anchor site off =
    if site == 0 then (if off == 0 then Some Root else None)
    else (if nat_lt off MAX_FILE then Some (At (record { site = site; off = off })) else None)

-- a cause
unfoldable pub anchor_at : List ℕ → Option (Anchor × List ℕ)
anchor_at bytes = do
  site ← number_at w16 bytes
  off ← number_at w32 site.1
  anchor ← checked_anchor site.0 off.0
  Some (anchor, off.1)

-- a range of names, within its site's file
unfoldable pub range_at : List ℕ → Option (Range × List ℕ)
range_at bytes = do
  site ← positive_at w16 bytes
  at ← number_at w32 site.1
  len ← positive_at w32 at.1
  if nat_lt MAX_FILE (at.0 + len.0) then None
      else Some (record { site = site.0; at = at.0; len = len.0 }, len.1)

-- the range stands after the last one, if there is one, and doesn't touch it
abbrev pub is_after : Option Range → Range → Bool
is_after None r = true
is_after (Some last) r = comes_before last r

-- so many ranges, each after the one before
unfoldable pub ranges_at : Option Range → ℕ → List ℕ → Option (List Range × List ℕ)
ranges_at last zero bytes = Some ([], bytes)
ranges_at last (suc n) bytes = do
  first ← range_at bytes
  others ← if is_after last first.0 then ranges_at (Some first.0) n first.1 else None
  Some (first.0 ∷ others.0, others.1)

-- so many ranges; none where the bytes don't begin with so many
abbrev pub ranges_in : ℕ → List ℕ → List Range
ranges_in count bytes = option_map_or (λ x. x.0) (ranges_at None count bytes) []

-- a set of names: 1 to 1,024 ranges after their count
unfoldable pub set_at : List ℕ → Option (List Range × List ℕ)
set_at bytes = do
  count ← positive_at w16 bytes
  if nat_lt MAX_RANGES count.0 then None else ranges_at None count.0 count.1

-- a cause that there may be: under the operation's own site it was inserted before
abbrev pub is_cause : ℕ → ℕ → Anchor → Bool
is_cause site at Root = true
is_cause site at (At name) =
    nat_lt 0 name.site && nat_lt name.site (2 ^ 16) && nat_lt name.off MAX_FILE
    && (not (name.site == site) || nat_lt name.off at)

-- 1 to 4,096 bytes after at others, within the site's file
abbrev pub fits_in_file : ℕ → ℕ → Bool
fits_in_file at len = nat_lt 0 len && nat_le len MAX_INSERT && nat_le (at + len) MAX_FILE

-- what an Insert of this site has to itself
unfoldable pub insert_at : ℕ → List ℕ → Option (OpKind × List ℕ)
insert_at site bytes = do
  cause ← anchor_at bytes
  at ← number_at w32 cause.1
  looks ← looks_at at.1
  len ← number_at w16 looks.1
  stretch ← stretch_at len.0 len.1
  if fits_in_file at.0 len.0 && is_cause site at.0 cause.0
      then Some (insert cause.0 at.0 looks.0 stretch.0, stretch.1)
      else None

-- what a Delete has to itself
unfoldable pub delete_at : List ℕ → Option (OpKind × List ℕ)
delete_at bytes = do
  names ← set_at bytes
  Some (delete names.0, names.1)

-- what a Restore has to itself
unfoldable pub restore_at : List ℕ → Option (OpKind × List ℕ)
restore_at bytes = do
  names ← set_at bytes
  Some (restore names.0, names.1)

-- what a ChangeLooks has to itself
unfoldable pub change_at : List ℕ → Option (OpKind × List ℕ)
change_at bytes = do
  sel ← sel_at bytes
  looks ← selected_at sel.0 sel.1
  names ← set_at looks.1
  Some (change_looks sel.0 looks.0 names.0, names.1)

-- what the kind of this number has to itself
unfoldable pub kind_at : (kind site : ℕ) → List ℕ → Option (OpKind × List ℕ)
kind_at kind site bytes =
    if kind == 1 then insert_at site bytes
    else (if kind == 2 then delete_at bytes
    else (if kind == 3 then change_at bytes
    else (if kind == 4 then restore_at bytes else None)))

-- the letters OT, the version of the kind, and its number
abbrev pub message_tag_at : List ℕ → Option (ℕ × List ℕ)
message_tag_at (o ∷ t ∷ version ∷ kind ∷ rest) =
    if o == 79 && t == 84 && version == version_byte kind then Some (kind, rest) else None
message_tag_at bytes = None

-- a stamp, 1 to 2^48 - 1
unfoldable pub stamp_at : List ℕ → Option (ℕ × List ℕ)
stamp_at bytes = do
  stamp ← positive_at w64 bytes
  if nat_le stamp.0 MAX_STAMP then Some stamp else None

-- what all messages begin with
pub record Header : Type 0 where
  pub kind : ℕ
  pub text : ℕ
  pub site : ℕ
  pub seq : ℕ
  pub stamp : ℕ

-- the tag, the text, the identity, the stamp
unfoldable pub header_at : List ℕ → Option (Header × List ℕ)
header_at bytes = do
  kind ← message_tag_at bytes
  text ← positive_at w16 kind.1
  site ← positive_at w16 text.1
  seq ← positive_at w32 site.1
  stamp ← stamp_at seq.1
  Some (record { kind = kind.0; text = text.0; site = site.0; seq = seq.0; stamp = stamp.0 }, stamp.1)

-- the operation of a header and what its kind has to itself
abbrev pub operation_of : Header → OpKind → Operation
operation_of h kind = record { text = h.text; site = h.site; seq = h.seq; stamp = h.stamp; kind = kind }

-- a message
unfoldable pub operation_at : List ℕ → Option (Operation × List ℕ)
operation_at bytes = do
  header ← header_at bytes
  kind ← kind_at header.0.kind header.0.site header.1
  Some (operation_of header.0 kind.0, kind.1)

-- the operation that all of the bytes spell
unfoldable pub message_of : List ℕ → Option Operation
message_of bytes = do
  op ← operation_at bytes
  if length op.1 == 0 then Some op.0 else None

-- the bytes spell no operation
abbrev pub SpellsNone : List ℕ → Type 0
SpellsNone bytes = (op : Operation) → HasSpelling op → bytes ≡ spelling op → ⊥

-- no spelling begins another one
abbrev pub NoneBeginsAnother : Type 0
NoneBeginsAnother =
    (a b : Operation) (rest : List ℕ) → HasSpelling a → HasSpelling b → spelling b ≡ spelling a ++ rest
    → rest ≡ []

-- no two looks share a spelling, and no looks' spelling begins another's: what looks are spelled at the front of
-- bytes, and what follows them, is told by the bytes
abbrev pub LooksAreDetermined : Type 0
LooksAreDetermined =
    (a b : Looks) (x y : List ℕ) → IsLooks a → IsLooks b → looks_spelling a ++ x ≡ looks_spelling b ++ y
    → (a ≡ b) × (x ≡ y)

-- no two operations share a spelling
abbrev pub NoneIsShared : Type 0
NoneIsShared = (a b : Operation) → HasSpelling a → HasSpelling b → spelling a ≡ spelling b → a ≡ b
