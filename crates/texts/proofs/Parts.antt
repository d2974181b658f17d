-- Parts of one list of bytes: how many there are, which one stands where, and what a part more leaves.
use Rattle.std.proofs.Common.{◌≡◌, ◌≢◌, ◌≤◌, ◌<◌, ◌-◌, ℕ, zero, suc, List, [], ◌∷◌, ◌++◌, Some, arith, ap, refl, sym, subst, ◌∙◌}
use Rattle.std.specs.Prelude.{drop, get_or, length, slice_get, slice_index, slice_range, take}
use Rattle.std.proofs.lemmas.List.{drop-append-le, length-drop, length-take-le, take-append-drop, take-append-le}
use Rattle.std.proofs.lemmas.Grind.{get_or_default_zero}
use Rattle.std.proofs.lemmas.Slice.{between_to_end}
use Rattle.std.proofs.Math.Seq.{drop-append_seam}
use Rattle.texts.specs.Parts.{AreEnds, part_beg, parts}

-- there are as many parts as ends
pub length-parts : (bytes ends : List ℕ) (beg : ℕ) → length (parts bytes beg ends) ≡ length ends
length-parts bytes [] beg = refl
length-parts bytes (end ∷ ends) beg = ap suc (length-parts bytes ends end)

-- where there is a part there is an end
pub has_end : (bytes ends : List ℕ) (beg : ℕ) → parts bytes beg ends ≢ [] → 0 < length ends
has_end bytes [] beg some = absurd (some refl)
has_end bytes (end ∷ ends) beg some = omega arith

-- the parts lie within the bytes
pub begins_within : (ends : List ℕ) (beg len : ℕ) → AreEnds beg ends len → beg ≤ len
begins_within [] beg len same = omega arith
begins_within (end ∷ ends) beg len (rise, rest) =
    let within = begins_within ends end len rest in
    omega arith

-- so each begins at most where it ends, and ends within the bytes
lies_within : (ends : List ℕ) (beg len i : ℕ) → AreEnds beg ends len → i < length ends
    → (slice_index (beg ∷ ends) i ≤ slice_index ends i) × (slice_index ends i ≤ len)
lies_within [] beg len i are within = absurd (omega arith)
lies_within (end ∷ ends) beg len zero (rise, rest) within = (rise, begins_within ends end len rest)
lies_within (end ∷ ends) beg len (suc i) (rise, rest) within = lies_within ends end len i rest (omega arith)

-- the part of an index stands between where it begins and where it ends
part_at : (bytes ends : List ℕ) (beg i : ℕ) → i < length ends
    → slice_get (parts bytes beg ends) i ≡ Some (slice_range bytes (slice_index (beg ∷ ends) i) (slice_index ends i))
part_at bytes [] beg i within = absurd (omega arith)
part_at bytes (end ∷ ends) beg zero within = refl
part_at bytes (end ∷ ends) beg (suc i) within = part_at bytes ends end i (omega arith)

-- a part that is read, of these: its positions are within the bytes, and it stands between them
pub read_part : (bytes ends : List ℕ) (seen : List (List ℕ)) (i beg end : ℕ) → AreEnds 0 ends (length bytes)
    → parts bytes 0 ends ≡ seen → i < length seen → beg ≡ part_beg ends i → end ≡ get_or ends i end
    → (beg ≤ end) × (end ≤ length bytes) × (slice_get seen i ≡ Some (slice_range bytes beg end))
read_part bytes ends seen i beg end are view has begins ends_at =
    let within : i < length ends = omega (arith, has, ap length view, length-parts bytes ends 0) in
    let is : end ≡ slice_index ends i = ends_at ∙ get_or_default_zero ends i end within in
    let (rise, most) = lies_within ends 0 (length bytes) i are within in (
      omega (arith, begins, is, rise),
      omega (arith, is, most),
      ap (λ (seen : List (List ℕ)). slice_get seen i) (sym view) ∙ part_at bytes ends 0 i within
          ∙ ap (λ (beg : ℕ). Some (slice_range bytes beg (slice_index ends i))) (sym begins)
          ∙ ap (λ (end : ℕ). Some (slice_range bytes beg end)) (sym is),
    )

-- the last part ends where the bytes do
last_end : (ends : List ℕ) (beg len : ℕ) → AreEnds beg ends len → slice_index (beg ∷ ends) (length ends) ≡ len
last_end [] beg len same = same
last_end (end ∷ ends) beg len (rise, rest) = last_end ends end len rest

-- an end more, which is where the bytes end from then on
pub ends_with : (ends : List ℕ) (beg len more : ℕ) → AreEnds beg ends len → len ≤ more → AreEnds beg (ends ++ more ∷ []) more
ends_with [] beg len more same within = (omega arith, refl)
ends_with (end ∷ ends) beg len more (rise, rest) within = (rise, ends_with ends end len more rest within)

-- the ends without the last one are those of the bytes before the last part
ends_before : (ends : List ℕ) (last beg len : ℕ) → AreEnds beg (ends ++ last ∷ []) len
    → AreEnds beg ends (slice_index (beg ∷ ends) (length ends)) × (slice_index (beg ∷ ends) (length ends) ≤ len)
ends_before [] last beg len (rise, same) = (refl, omega arith)
ends_before (end ∷ ends) last beg len (rise, rest) =
    let (are, within) = ends_before ends last end len rest in
    ((rise, are), within)

-- the part of a last end stands behind the others
parts_with : (bytes ends : List ℕ) (beg last : ℕ) → parts bytes beg (ends ++ last ∷ [])
    ≡ parts bytes beg ends ++ slice_range bytes (slice_index (beg ∷ ends) (length ends)) last ∷ []
parts_with bytes [] beg last = refl
parts_with bytes (end ∷ ends) beg last =
    ap (λ (rest : List (List ℕ)). slice_range bytes beg end ∷ rest) (parts_with bytes ends end last)

-- a stretch within the first bytes is of them alone
stretch_of_first : (bytes more : List ℕ) (beg end : ℕ) → beg ≤ end → end ≤ length bytes
    → slice_range (bytes ++ more) beg end ≡ slice_range bytes beg end
stretch_of_first bytes more beg end rise within =
    let left : end - beg ≤ length (drop beg bytes) = subst (λ (n : ℕ). end - beg ≤ n) (sym (length-drop beg bytes)) (omega arith) in
    ap (take (end - beg)) (drop-append-le beg bytes more (omega arith)) ∙ take-append-le (end - beg) (drop beg bytes) more left

-- bytes behind the last part change none
parts_of_first : (bytes more ends : List ℕ) (beg : ℕ) → AreEnds beg ends (length bytes)
    → parts (bytes ++ more) beg ends ≡ parts bytes beg ends
parts_of_first bytes more [] beg are = refl
parts_of_first bytes more (end ∷ ends) beg (rise, rest) =
    ap (λ (part : List ℕ). part ∷ parts (bytes ++ more) end ends)
    (stretch_of_first bytes more beg end rise (begins_within ends end (length bytes) rest))
    ∙ ap (λ (others : List (List ℕ)). slice_range bytes beg end ∷ others) (parts_of_first bytes more ends end rest)

-- bytes behind the last part, and an end behind them: they are a part more
pub part_more : (bytes more ends : List ℕ) → AreEnds 0 ends (length bytes)
    → parts (bytes ++ more) 0 (ends ++ length (bytes ++ more) ∷ []) ≡ parts bytes 0 ends ++ more ∷ []
part_more bytes more ends are =
    let whole = bytes ++ more in
    let rest : slice_range whole (length bytes) (length whole) ≡ more =
    between_to_end whole (length bytes) (length whole) (omega arith) ∙ drop-append_seam bytes more in
    parts_with whole ends 0 (length whole)
    ∙ ap (λ (beg : ℕ). parts whole 0 ends ++ slice_range whole beg (length whole) ∷ []) (last_end ends 0 (length bytes) are)
    ∙ ap (λ (part : List ℕ). parts whole 0 ends ++ part ∷ []) rest
    ∙ ap (λ (others : List (List ℕ)). others ++ more ∷ []) (parts_of_first bytes more ends 0 are)

-- without the last end, and without the bytes from where its part begins, there are the other parts
pub part_less : (bytes ends : List ℕ) (last : ℕ) → AreEnds 0 (ends ++ last ∷ []) (length bytes)
    → let before = take (part_beg ends (length ends)) bytes in
    AreEnds 0 ends (length before)
    × (parts bytes 0 (ends ++ last ∷ []) ≡ parts before 0 ends ++ slice_range bytes (part_beg ends (length ends)) last ∷ [])
part_less bytes ends last are =
    let beg = part_beg ends (length ends) in
    let before = take beg bytes in
    let (others, within) = ends_before ends last 0 (length bytes) are in
    let they : AreEnds 0 ends (length before) = subst (AreEnds 0 ends) (sym (length-take-le beg bytes within)) others in
    let same : parts bytes 0 ends ≡ parts before 0 ends =
    ap (λ (all : List ℕ). parts all 0 ends) (sym (take-append-drop beg bytes)) ∙ parts_of_first before (drop beg bytes) ends 0 they in
    (they, parts_with bytes ends 0 last ∙ ap (λ (firsts : List (List ℕ)). firsts ++ slice_range bytes beg last ∷ []) same)
