-- How long messages are: two bytes tell each one's length.
use Rattle.std.proofs.Common.{◌≡◌, ℕ, ◌*◌, ◌^◌, ◌<◌, ◌≤◌, Bool, true, false, List, [], ◌∷◌, ◌++◌, length, refl}
use Rattle.std.proofs.Common.{length-append, arith}
use Rattle.std.specs.Prelude.{if◌then◌else◌}
use Rattle.std.specs.Int.{w16, w32}
use Rattle.std.specs.List.{flat_map}
use Rattle.looks.specs.declared.looks.Looks.{Looks}
use Rattle.looks.specs.Looks.{IsLooks}
use Rattle.looks.specs.Sel.{Selection, bits_of}
use Rattle.char_files.specs.declared.name.Anchor.{Anchor}
use Rattle.char_files.specs.declared.name.Anchor.TheVariants.{Root, At}
use Rattle.operations.specs.NameSet.{Range, IsNamed}
use Rattle.operations.specs.Operation.{OpKind, insert, delete, restore, change_looks, Operation}
use Rattle.byte_fields.specs.Fields.{number_spelling}
use Rattle.operations.specs.Spelling.{tag_spelling, header_spelling, anchor_spelling, looks_spelling}
use Rattle.operations.specs.Spelling.{font_spelling, offset_spelling, selected_spelling, range_spelling, set_spelling}
use Rattle.operations.specs.Spelling.{kind_byte, kind_spelling, spelling, HasSpelling, IsKind}

header_len : (kind text site seq stamp : ℕ) → length (header_spelling kind text site seq stamp) ≡ 20
unfolding number_spelling tag_spelling
header_len kind text site seq stamp = refl

anchor_len : (cause : Anchor) → length (anchor_spelling cause) ≡ 6
unfolding number_spelling
anchor_len Root = refl
anchor_len (At name) = refl

two_bytes : (n : ℕ) → length (number_spelling w16 n) ≡ 2
unfolding number_spelling
two_bytes n = refl

four_bytes : (n : ℕ) → length (number_spelling w32 n) ≡ 4
unfolding number_spelling
four_bytes n = refl

looks_len : (l : Looks) → IsLooks l → length (looks_spelling l) ≤ 34
looks_len l is =
    let few = is.font.few in
    omega (arith, few, length-append (font_spelling l.font) (l.colour ∷ offset_spelling l.offset))

range_len : (r : Range) → length (range_spelling r) ≡ 10
unfolding number_spelling
range_len r = refl

ranges_len : (rs : List Range) → length (flat_map range_spelling rs) ≡ 10 * length rs
ranges_len [] = refl
ranges_len (r ∷ rs) =
    omega (arith, ranges_len rs, range_len r, length-append (range_spelling r) (flat_map range_spelling rs))

set_len : (names : List Range) → IsNamed names → length (set_spelling names) ≤ 10242
set_len names is =
    let few = is.few in
    omega (
      arith,
      few,
      ranges_len names,
      two_bytes (length names),
      length-append (number_spelling w16 (length names)) (flat_map range_spelling names),
    )

-- a selected value is as long as it is, one that isn't selected takes no bytes
part_len : (selected : Bool) (bytes : List ℕ) → length (if selected then bytes else []) ≤ length bytes
part_len true bytes = omega arith
part_len false bytes = omega arith

selected_len : (sel : Selection) (l : Looks) → IsLooks l → length (selected_spelling sel l) ≤ 34
selected_len sel l is =
    let font : List ℕ = if sel.font then font_spelling l.font else [] in
    let colour : List ℕ = if sel.colour then l.colour ∷ [] else [] in
    let offset : List ℕ = if sel.offset then offset_spelling l.offset else [] in
    let few = is.font.few in
    omega (
      arith,
      few,
      part_len sel.font (font_spelling l.font),
      part_len sel.colour (l.colour ∷ []),
      part_len sel.offset (offset_spelling l.offset),
      length-append (font ++ colour) offset,
      length-append font colour,
    )

kind_len : (site : ℕ) (kind : OpKind) → IsKind site kind → length (kind_spelling kind) ≤ 10277
kind_len site (insert cause at looks bytes) is =
    let a : List ℕ = anchor_spelling cause in
    let b : List ℕ = number_spelling w32 at in
    let c : List ℕ = looks_spelling looks in
    let d : List ℕ = number_spelling w16 (length bytes) in
    let few = is.few in
    omega (
      arith,
      few,
      anchor_len cause,
      four_bytes at,
      looks_len looks is.valid_looks,
      two_bytes (length bytes),
      length-append (a ++ b ++ c ++ d) bytes,
      length-append (a ++ b ++ c) d,
      length-append (a ++ b) c,
      length-append a b,
    )
kind_len site (delete names) is = omega (arith, set_len names is)
kind_len site (restore names) is = omega (arith, set_len names is)
kind_len site (change_looks sel looks names) is =
    omega (
      arith,
      set_len names is.named,
      selected_len sel looks is.valid_looks,
      length-append (bits_of sel ∷ selected_spelling sel looks) (set_spelling names),
    )

pub spelling_fits : (op : Operation) → HasSpelling op → length (spelling op) < 2 ^ 16
spelling_fits op is =
    let header : List ℕ = header_spelling (kind_byte op.kind) op.text op.site op.seq op.stamp in
    omega (
      arith,
      kind_len op.site op.kind is.kind,
      header_len (kind_byte op.kind) op.text op.site op.seq op.stamp,
      length-append header (kind_spelling op.kind),
    )
