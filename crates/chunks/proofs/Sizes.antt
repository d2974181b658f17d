-- An operation alone always has room in a chunk.
use Rattle.std.proofs.Common.{◌≡◌, ℕ, zero, suc, ◌+◌, ◌-◌, ◌*◌, ◌/◌, ◌^◌, ◌<◌, ◌≤◌, inl, inr, Bool, true, false, cond}
use Rattle.std.proofs.Common.{eqb, ltb, List, [], ◌∷◌, ◌++◌, length, All, length-append, arith}
use Rattle.std.proofs.lemmas.Bool.{cases_Bool, ltb-false}
use Rattle.std.proofs.lemmas.List.Elements.{All-head, All-tail}
use Rattle.looks.specs.declared.looks.Looks.{Looks}
use Rattle.looks.specs.Looks.{IsLooks}
use Rattle.looks.specs.Sel.{Selection, bits_of}
use Rattle.char_files.specs.Runs.{same_looks}
use Rattle.char_files.specs.declared.name.Anchor.{Anchor}
use Rattle.char_files.specs.declared.name.Anchor.TheVariants.{Root, At}
use Rattle.operations.specs.NameSet.{Range, IsRange, IsNamed}
use Rattle.operations.specs.Operation.{OpKind, insert, delete, restore, change_looks}
use Rattle.operations.specs.Spelling.{IsKind, looks_spelling, selected_spelling, font_spelling, offset_spelling}
use Rattle.packed.specs.Numbers.{sevens, sevens_within}
use Rattle.packed.specs.Sets.{gap_before, range_after, ranges_after, packed_set}
use Rattle.packed.specs.declared.expected.Expected.{Expected}
use Rattle.packed.specs.Spelling.{is_code, looks_lead, place_lead, bytes_spelling, delete_spelling, edit_spelling}

-- ---- numbers

-- numbers below b have so many bytes at most
Sized : (fuel b k : ℕ) → Type 0
Sized fuel b k = (n : ℕ) → n < b → length (sevens_within fuel n) ≤ k

sized_1 : (fuel : ℕ) → Sized fuel 128 1
unfolding Sized sevens_within
sized_1 zero n lt = omega arith
sized_1 (suc fuel) n lt =
    elim (cases_Bool (ltb n 128)) [
      | inl h ↦ rw h (omega arith)
      | inr h ↦ absurd (omega (arith, ltb-false _ _ h, lt))
    ]

sized_more : (fuel b k : ℕ) → Sized fuel b k → Sized (suc fuel) (128 * b) (suc k)
unfolding Sized sevens_within
sized_more fuel b k sized n lt =
    elim (cases_Bool (ltb n 128)) [
      | inl h ↦ rw h (omega arith)
      | inr h ↦ rw h (omega (arith, sized (n / 128) (omega (arith, lt))))
    ]

pub sized_14 : (n : ℕ) → n < 2 ^ 14 → length (sevens n) ≤ 2
unfolding Sized sevens
sized_14 n lt = sized_more 6 128 1 (sized_1 6) n (omega (arith, lt))

pub sized_21 : (n : ℕ) → n < 2 ^ 21 → length (sevens n) ≤ 3
unfolding Sized sevens
sized_21 n lt = sized_more 6 (128 * 128) 2 (sized_more 5 128 1 (sized_1 5)) n (omega (arith, lt))

pub sized_28 : (n : ℕ) → n < 2 ^ 28 → length (sevens n) ≤ 4
unfolding Sized sevens
sized_28 n lt =
    sized_more 6 (128 * (128 * 128)) 3 (sized_more 5 (128 * 128) 2 (sized_more 4 128 1 (sized_1 4))) n (omega (arith, lt))

within_sized : (fuel n : ℕ) → length (sevens_within fuel n) ≤ fuel
unfolding sevens_within
within_sized zero n = omega arith
within_sized (suc fuel) n =
    elim (cases_Bool (ltb n 128)) [
      | inl h ↦ rw h (omega arith)
      | inr h ↦ rw h (omega (arith, within_sized fuel (n / 128)))
    ]

pub sized_any : (n : ℕ) → length (sevens n) ≤ 7
unfolding sevens
sized_any n = within_sized 7 n

-- ---- sets

gap_sized : (site end : ℕ) (r : Range) → IsRange r → gap_before site end r < 2 ^ 28
gap_sized site end r is = by (eqb r.site site)
  where
    by : (b : Bool) → cond b (r.at - (end + 1)) r.at < 2 ^ 28
    by true = omega (arith, is.2, is.3)
    by false = omega (arith, is.2, is.3)

range_sized : (site end : ℕ) (r : Range) → IsRange r → length (range_after site end r) ≤ 11
unfolding range_after
range_sized site end r is =
    omega (
      arith,
      length-append (sevens (r.site - site) ++ sevens (gap_before site end r)) (sevens (r.len - 1)),
      length-append (sevens (r.site - site)) (sevens (gap_before site end r)),
      sized_21 (r.site - site) (omega (arith, is.1)),
      sized_28 (gap_before site end r) (gap_sized site end r is),
      sized_28 (r.len - 1) (omega (arith, is.3)),
    )

ranges_sized : (names : List Range) (site end : ℕ) → All IsRange names
    → length (ranges_after site end names) ≤ 11 * length names
unfolding ranges_after
ranges_sized [] site end are = omega arith
ranges_sized (r ∷ names) site end are =
    omega (
      arith,
      length-append (range_after site end r) (ranges_after r.site (r.at + r.len) names),
      range_sized site end r (All-head IsRange r names are),
      ranges_sized names r.site (r.at + r.len) (All-tail IsRange r names are),
    )

-- a set
pub set_sized : (names : List Range) → IsNamed names → length (packed_set names) ≤ 11266
unfolding packed_set
set_sized names is =
    omega (
      arith,
      length-append (sevens (length names - 1)) (ranges_after 0 0 names),
      sized_14 (length names - 1) (omega (arith, is.few)),
      ranges_sized names 0 0 is.set.ranges,
      is.few,
    )

-- ---- edits

font_sized : (looks : Looks) → IsLooks looks → length (font_spelling looks.font) ≤ 32
font_sized looks is = omega (arith, is.font.few)

looks_sized : (looks : Looks) → IsLooks looks → length (looks_spelling looks) ≤ 34
looks_sized looks is =
    omega (
      arith,
      length-append (font_spelling looks.font) (looks.colour ∷ offset_spelling looks.offset),
      font_sized looks is,
    )

lead_sized : (typed looks : Looks) → IsLooks looks → length (looks_lead typed looks) ≤ 35
lead_sized typed looks is = by (same_looks typed looks)
  where
    by : (b : Bool) → length (cond b [] (3 ∷ looks_spelling looks)) ≤ 35
    by true = omega arith
    by false = omega (arith, looks_sized looks is)

selected_sized : (sel : Selection) (looks : Looks) → IsLooks looks → length (selected_spelling sel looks) ≤ 34
selected_sized sel looks is = by sel.font sel.colour sel.offset
  where
    by : (a b c : Bool) → length (cond a (font_spelling looks.font) [] ++ cond b (looks.colour ∷ []) []
        ++ cond c (offset_spelling looks.offset) []) ≤ 34
    by a b c =
        omega (
          arith,
          length-append (cond a (font_spelling looks.font) [] ++ cond b (looks.colour ∷ []) [])
              (cond c (offset_spelling looks.offset) []),
          length-append (cond a (font_spelling looks.font) []) (cond b (looks.colour ∷ []) []),
          one a,
          two b,
          three c,
        )
      where
        one : (a : Bool) → length (cond a (font_spelling looks.font) []) ≤ 32
        one true = font_sized looks is
        one false = omega arith

        two : (b : Bool) → length (cond b (looks.colour ∷ []) []) ≤ 1
        two true = omega arith
        two false = omega arith

        three : (c : Bool) → length (cond c (offset_spelling looks.offset) []) ≤ 1
        three true = omega arith
        three false = omega arith

-- from the root a place is another file's
place_sized : (place : Anchor) → length (place_lead Root place) ≤ 15
place_sized Root = omega arith
place_sized (At name) =
    omega (arith, length-append (5 ∷ sevens name.site) (sevens name.off), sized_any name.site, sized_any name.off)

bytes_sized : (bytes : List ℕ) → length bytes ≤ 4096 → length (bytes_spelling true bytes) ≤ 4104
bytes_sized [] few = omega (arith, length-append (6 ∷ sevens (0 - 2)) [], sized_any (0 - 2))
bytes_sized (b ∷ []) few = by (is_code true b)
  where
    by : (c : Bool) → length (cond c (14 ∷ b ∷ []) (b ∷ [])) ≤ 4104
    by true = omega arith
    by false = omega arith
bytes_sized (b ∷ c ∷ bytes) few =
    let all : List ℕ = b ∷ c ∷ bytes in
    omega (arith, length-append (6 ∷ sevens (length all - 2)) all, sized_any (length all - 2), few)

delete_sized : (names : List Range) → IsNamed names → length (delete_spelling Root names) ≤ 11267
delete_sized [] is = omega (arith, set_sized [] is)
delete_sized (r ∷ s ∷ names) is = omega (arith, set_sized (r ∷ s ∷ names) is)
delete_sized (r ∷ []) is = by (eqb r.len 1)
  where
    place : Anchor
    place = At (record { site = r.site; off = r.at })

    by : (b : Bool) → length (cond b (place_lead Root place ++ 8 ∷ []) (7 ∷ packed_set (r ∷ []))) ≤ 11267
    by true = omega (arith, length-append (place_lead Root place) (8 ∷ []), place_sized place)
    by false = omega (arith, set_sized (r ∷ []) is)

-- what an operation does, where its site's caret is at the root
pub edit_sized : (e : Expected) (site : ℕ) (kind : OpKind) → e.caret ≡ Root → IsKind site kind
    → length (edit_spelling true e kind) ≤ 11400
edit_sized e site (insert cause at looks bytes) root is =
    rw root (omega (
      arith,
      length-append (looks_lead e.looks looks ++ place_lead Root cause) (bytes_spelling true bytes),
      length-append (looks_lead e.looks looks) (place_lead Root cause),
      lead_sized e.looks looks is.valid_looks,
      place_sized cause,
      bytes_sized bytes (omega (arith, is.few)),
    ))
edit_sized e site (delete names) root is = rw root (omega (arith, delete_sized names is))
edit_sized e site (restore names) root is = omega (arith, set_sized names is)
edit_sized e site (change_looks sel looks names) root is =
    omega (
      arith,
      length-append (11 ∷ bits_of sel ∷ selected_spelling sel looks) (packed_set names),
      selected_sized sel looks is.valid_looks,
      set_sized names is.named,
    )
