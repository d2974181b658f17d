-- The one spelling of an operation, field by field, and which operations have one.
use Rattle.std.specs.Prelude.{◌≡◌, ℕ, ℤ, ◌+◌, ◌^◌, ◌<◌, ◌≤◌, List, [], ◌∷◌, ◌++◌, length, if◌then◌else◌}
use Rattle.std.specs.Prelude.{◌==◌, All, false}
use Rattle.std.specs.Int.{w8, w16, w32, w64, cast_unsigned}
use Rattle.std.specs.List.{flat_map}
use Rattle.byte_fields.specs.Fields.{number_spelling}
use Rattle.looks.specs.declared.looks.Looks.{Looks}
use Rattle.looks.specs.Looks.{IsLooks, plain_looks}
use Rattle.looks.specs.Sel.{Selection, bits_of}
use Rattle.char_files.specs.CharName.{CharName}
use Rattle.char_files.specs.declared.TheConstants.{MAX_FILE}
use Rattle.char_files.specs.declared.name.Anchor.{Anchor}
use Rattle.char_files.specs.declared.name.Anchor.TheVariants.{Root, At}
use Rattle.operations.specs.declared.kind.TheConstants.{MAX_INSERT}
use Rattle.operations.specs.declared.op.TheConstants.{MAX_STAMP}
use Rattle.operations.specs.NameSet.{Range, IsNamed}
use Rattle.operations.specs.Operation.{OpKind, insert, delete, restore, change_looks, Operation}

-- a font's name after its length
abbrev pub font_spelling : List ℕ → List ℕ
font_spelling font = length font ∷ font

-- an offset in two's complement
abbrev pub offset_spelling : ℤ → List ℕ
offset_spelling offset = cast_unsigned w8 offset ∷ []

-- looks: the font, the colour, the offset
abbrev pub looks_spelling : Looks → List ℕ
looks_spelling l = font_spelling l.font ++ l.colour ∷ offset_spelling l.offset

-- of looks the selected values alone, in the same order
abbrev pub selected_spelling : Selection → Looks → List ℕ
selected_spelling sel l =
    (if sel.font then font_spelling l.font else []) ++ (if sel.colour then l.colour ∷ [] else [])
    ++ (if sel.offset then offset_spelling l.offset else [])

-- a name: the site, and the offset in its file
abbrev pub name_spelling : CharName → List ℕ
name_spelling n = number_spelling w16 n.site ++ number_spelling w32 n.off

-- a cause: the root is spelled as offset 0 of site 0
abbrev pub anchor_spelling : Anchor → List ℕ
anchor_spelling Root = name_spelling (record { site = 0; off = 0 })
anchor_spelling (At name) = name_spelling name

-- a range of names: the site, the first offset, the length
abbrev pub range_spelling : Range → List ℕ
range_spelling r = number_spelling w16 r.site ++ number_spelling w32 r.at ++ number_spelling w32 r.len

-- a set of names: how many ranges, then the ranges
abbrev pub set_spelling : List Range → List ℕ
set_spelling names = number_spelling w16 (length names) ++ flat_map range_spelling names

-- the number of the kind
abbrev pub kind_byte : OpKind → ℕ
kind_byte (insert cause at looks bytes) = 1
kind_byte (delete names) = 2
kind_byte (restore names) = 4
kind_byte (change_looks sel looks names) = 3

-- what the kinds have each to themselves
abbrev pub kind_spelling : OpKind → List ℕ
kind_spelling (insert cause at looks bytes) =
    anchor_spelling cause ++ number_spelling w32 at ++ looks_spelling looks
    ++ number_spelling w16 (length bytes) ++ bytes
kind_spelling (delete names) = set_spelling names
kind_spelling (restore names) = set_spelling names
kind_spelling (change_looks sel looks names) = bits_of sel ∷ selected_spelling sel looks ++ set_spelling names

-- the version of the messages of this kind: a Restore came with version 2
abbrev pub version_byte : ℕ → ℕ
version_byte kind = if kind == 4 then 2 else 1

-- the letters OT, the version of the kind, and its number
unfoldable pub tag_spelling : ℕ → List ℕ
tag_spelling kind = 79 ∷ 84 ∷ version_byte kind ∷ kind ∷ []

-- what all messages begin with: the tag, the text, the identity, the stamp
abbrev pub header_spelling : (kind text site seq stamp : ℕ) → List ℕ
header_spelling kind text site seq stamp =
    tag_spelling kind ++ number_spelling w16 text ++ number_spelling w16 site ++ number_spelling w32 seq
    ++ number_spelling w64 stamp

-- the whole message
abbrev pub spelling : Operation → List ℕ
spelling op = header_spelling (kind_byte op.kind) op.text op.site op.seq op.stamp ++ kind_spelling op.kind

-- a cause that there may be: under the operation's own site it was inserted before
abbrev pub IsCause : ℕ → ℕ → Anchor → Type 0
IsCause site at Root = Unit {0}
IsCause site at (At name) =
    (0 < name.site) × (name.site < 2 ^ 16) × (name.off < MAX_FILE) × (name.site ≡ site → name.off < at)

-- the fields of an Insert are in range: 1 to 4,096 bytes, that end within the site's file
pub record IsInsert (site : ℕ) (cause : Anchor) (at : ℕ) (looks : Looks) (bytes : List ℕ) : Type 0 where
  pub caused : IsCause site at cause
  pub valid_looks : IsLooks looks
  pub some : 0 < length bytes
  pub few : length bytes ≤ MAX_INSERT
  pub in_file : at + length bytes ≤ MAX_FILE
  pub valid_bytes : All (λ b. b < 256) bytes

-- the attributes that aren't selected have their defaults
pub record IsPlainElsewhere (sel : Selection) (looks : Looks) : Type 0 where
  pub font : sel.font ≡ false → looks.font ≡ plain_looks.font
  pub colour : sel.colour ≡ false → looks.colour ≡ plain_looks.colour
  pub offset : sel.offset ≡ false → looks.offset ≡ plain_looks.offset

-- the fields of a ChangeLooks are in range
pub record IsChange (sel : Selection) (looks : Looks) (names : List Range) : Type 0 where
  pub some : 0 < bits_of sel
  pub valid_looks : IsLooks looks
  pub plain_elsewhere : IsPlainElsewhere sel looks
  pub named : IsNamed names

-- the fields of the kind are in range
abbrev pub IsKind : ℕ → OpKind → Type 0
IsKind site (insert cause at looks bytes) = IsInsert site cause at looks bytes
IsKind site (delete names) = IsNamed names
IsKind site (restore names) = IsNamed names
IsKind site (change_looks sel looks names) = IsChange sel looks names

-- the operations that have a spelling
pub record HasSpelling (op : Operation) : Type 0 where
  pub text : (0 < op.text) × (op.text < 2 ^ 16)
  pub site : (0 < op.site) × (op.site < 2 ^ 16)
  pub seq : (0 < op.seq) × (op.seq < 2 ^ 32)
  pub stamp : (0 < op.stamp) × (op.stamp ≤ MAX_STAMP)
  pub kind : IsKind op.site op.kind
