-- Characters, cut into runs.
use Rattle.std.proofs.Common.{◌≡◌, ◌≢◌, ℕ, ◌+◌, ◌<◌, ◌≤◌, List, [], ◌∷◌, ◌++◌, length, map, take, drop, Option}
use Rattle.std.proofs.Common.{Some, refl, sym, ap, ◌∙◌, length-append, arith}
use Rattle.std.specs.List.{flat_map, AllByRecursion}
use Rattle.std.proofs.lemmas.List.{take_at, drop_at, length-take, length-drop, length-map, map-append}
use Rattle.std.proofs.lemmas.List.{take-append-drop, nil_from_length}
use Rattle.looks.specs.declared.looks.Looks.{Looks}
use Rattle.looks.specs.Looks.{IsLooks}
use Rattle.char_files.specs.Stretch.{Stretch, Item, items_of, items_of_run, AreRuns}
use Rattle.text_file.specs.declared.TheConstants.{MAX_STORED}
use Rattle.text_file.specs.declared.loading.Head.{Head}
use Rattle.text_file.specs.Files.{run_spelling}
use Rattle.text_file.specs.Heads.{head_spelling, AreHeads, total_of, cut_into_runs}

-- a run without its characters
abbrev pub head_of : Stretch → Head
head_of r = record { looks = r.looks; len = length r.bytes }

-- the characters of runs
abbrev pub chars_of : List Stretch → List ℕ
chars_of runs = flat_map (λ r. r.bytes) runs

-- the characters of a run of these looks
abbrev pub run_items : Looks → List ℕ → List Item
run_items looks bytes = items_of_run (record { looks = looks; bytes = bytes })

-- each character has looks that there are
abbrev pub InLooks : List Item → Type 0
InLooks items = AllByRecursion (λ c. IsLooks c.1) items

-- ---- runs that are cut

-- what is left of the characters after the first run
module _ (h : Head) (heads : List Head) (chars : List ℕ) (e : total_of (h ∷ heads) ≡ length chars) where
  first_len : length (take h.len chars) ≡ h.len
  first_len = omega (arith, e, length-take h.len chars)

  others_len : total_of heads ≡ length (drop h.len chars)
  others_len = omega (arith, e, length-drop h.len chars)

pub cut_heads : (heads : List Head) (chars : List ℕ) → total_of heads ≡ length chars
    → map head_of (cut_into_runs heads chars) ≡ heads
cut_heads [] chars e = refl
cut_heads (h ∷ heads) chars e =
    let made : ℕ → Head = λ n. record { looks = h.looks; len = n } in
    let others : List Head = map head_of (cut_into_runs heads (drop h.len chars)) in
    ap (λ (n : ℕ). made n ∷ others) (first_len h heads chars e)
    ∙ ap (λ (more : List Head). h ∷ more) (cut_heads heads (drop h.len chars) (others_len h heads chars e))

pub cut_chars : (heads : List Head) (chars : List ℕ) → total_of heads ≡ length chars
    → chars_of (cut_into_runs heads chars) ≡ chars
cut_chars [] chars e = sym (nil_from_length chars (sym e))
cut_chars (h ∷ heads) chars e =
    ap (λ (more : List ℕ). take h.len chars ++ more) (cut_chars heads (drop h.len chars)
    (others_len h heads chars e))
    ∙ take-append-drop h.len chars

first_there : (h : Head) (heads : List Head) (chars : List ℕ) → total_of (h ∷ heads) ≡ length chars
    → 0 < h.len → take h.len chars ≢ []
first_there h heads chars e some none = absurd (omega (arith, first_len h heads chars e, ap length none))

pub cut_runs : (last : Option Looks) (heads : List Head) (chars : List ℕ) → AreHeads last heads
    → total_of heads ≡ length chars → AreRuns (cut_into_runs heads chars)
cut_runs last [] chars valid e = tt
cut_runs last (h ∷ []) chars valid e = first_there h [] chars e valid.0.some
cut_runs last (h ∷ g ∷ heads) chars valid e = (
  first_there h (g ∷ heads) chars e valid.0.some,
  λ same. valid.2.1 (ap (λ (l : Looks). Some l) same),
  cut_runs (Some h.looks) (g ∷ heads) (drop h.len chars) valid.2 (others_len h (g ∷ heads) chars e),
)

run_in_looks : (looks : Looks) (bytes : List ℕ) (items : List Item) → IsLooks looks → InLooks items
    → InLooks (run_items looks bytes ++ items)
run_in_looks looks [] items is others = others
run_in_looks looks (b ∷ bytes) items is others = (is, run_in_looks looks bytes items is others)

pub cut_in_looks : (last : Option Looks) (heads : List Head) (chars : List ℕ) → AreHeads last heads
    → InLooks (items_of (cut_into_runs heads chars))
cut_in_looks last [] chars valid = tt
cut_in_looks last (h ∷ heads) chars valid =
    run_in_looks h.looks (take h.len chars) (items_of (cut_into_runs heads (drop h.len chars))) valid.0.looks
    (cut_in_looks (Some h.looks) heads (drop h.len chars) valid.2)

-- ---- runs, taken apart

pub cut_again : (runs : List Stretch) → cut_into_runs (map head_of runs) (chars_of runs) ≡ runs
cut_again [] = refl
cut_again (r ∷ runs) =
    let made : List ℕ → Stretch = λ bytes. record { looks = r.looks; bytes = bytes } in
    let front : take (length r.bytes) (r.bytes ++ chars_of runs) ≡ r.bytes =
    take_at r.bytes (chars_of runs) (length r.bytes) refl in
    let back : drop (length r.bytes) (r.bytes ++ chars_of runs) ≡ chars_of runs =
    drop_at r.bytes (chars_of runs) (length r.bytes) refl in
    ap (λ (bytes : List ℕ). made bytes ∷ cut_into_runs (map head_of runs) (drop (length r.bytes) (r.bytes
    ++ chars_of runs))) front
    ∙ ap (λ (bytes : List ℕ). r ∷ cut_into_runs (map head_of runs) bytes) back
    ∙ ap (λ (more : List Stretch). r ∷ more) (cut_again runs)

run_chars : (looks : Looks) (bytes : List ℕ)
    → map (λ c. c.0) (run_items looks bytes) ≡ bytes
run_chars looks [] = refl
run_chars looks (b ∷ bytes) = ap (λ (more : List ℕ). b ∷ more) (run_chars looks bytes)

pub items_chars : (runs : List Stretch) → map (λ c. c.0) (items_of runs) ≡ chars_of runs
items_chars [] = refl
items_chars (r ∷ runs) =
    let first : Item → ℕ = λ c. c.0 in
    map-append first (items_of_run r) (items_of runs)
    ∙ ap (λ (front : List ℕ). front ++ map first (items_of runs)) (run_chars r.looks r.bytes)
    ∙ ap (λ (more : List ℕ). r.bytes ++ more) (items_chars runs)

pub items_len : (runs : List Stretch) → length (items_of runs) ≡ length (chars_of runs)
items_len runs =
    let first : Item → ℕ = λ c. c.0 in
    sym (length-map (items_of runs) first) ∙ ap length (items_chars runs)

pub heads_total : (runs : List Stretch) → total_of (map head_of runs) ≡ length (chars_of runs)
heads_total [] = refl
heads_total (r ∷ runs) = omega (arith, heads_total runs, length-append r.bytes (chars_of runs))

pub heads_spelling : (runs : List Stretch)
    → flat_map head_spelling (map head_of runs) ≡ flat_map run_spelling runs
heads_spelling [] = refl
heads_spelling (r ∷ runs) = ap (λ (more : List ℕ). run_spelling r ++ more) (heads_spelling runs)

-- ---- runs that can't be joined

pub first_some : (r : Stretch) (runs : List Stretch) → AreRuns (r ∷ runs) → r.bytes ≢ []
first_some r [] maximal = maximal
first_some r (s ∷ runs) maximal = maximal.0

pub other_runs : (r : Stretch) (runs : List Stretch) → AreRuns (r ∷ runs) → AreRuns runs
other_runs r [] maximal = tt
other_runs r (s ∷ runs) maximal = maximal.2

-- the first of these runs has other looks than the last one
abbrev pub FirstApart : Option Looks → List Stretch → Type 0
FirstApart last [] = Unit {0}
FirstApart last (r ∷ runs) = last ≢ Some r.looks

first_apart : (r : Stretch) (runs : List Stretch) → AreRuns (r ∷ runs) → FirstApart (Some r.looks) runs
first_apart r [] maximal = tt
first_apart r (s ∷ runs) maximal = λ same. maximal.1 cc

others_in_looks : (xs ys : List Item) → InLooks (xs ++ ys) → InLooks ys
others_in_looks [] ys h = h
others_in_looks (x ∷ xs) ys h = others_in_looks xs ys h.1

first_in_looks : (looks : Looks) (bytes : List ℕ) (items : List Item) → bytes ≢ []
    → InLooks (run_items looks bytes ++ items) → IsLooks looks
first_in_looks looks [] items some h = absurd (some refl)
first_in_looks looks (b ∷ bytes) items some h = h.0

pub some_len : (bytes : List ℕ) → bytes ≢ [] → 0 < length bytes
some_len [] some = absurd (some refl)
some_len (b ∷ bytes) some = omega arith

pub heads_valid : (last : Option Looks) (runs : List Stretch) → AreRuns runs → InLooks (items_of runs)
    → length (chars_of runs) ≤ MAX_STORED → FirstApart last runs → AreHeads last (map head_of runs)
heads_valid last [] maximal looks few apart = tt
heads_valid last (r ∷ runs) maximal looks few apart =
    let some : r.bytes ≢ [] = first_some r runs maximal in
    let len : length (r.bytes ++ chars_of runs) ≡ length r.bytes + length (chars_of runs) =
    length-append r.bytes (chars_of runs) in (
      record {
        looks = first_in_looks r.looks r.bytes (items_of runs) some looks;
        some = some_len r.bytes some;
        fits =
            omega (arith, len, few);
      },
      apart,
      heads_valid (Some r.looks) runs (other_runs r runs maximal)
          (others_in_looks (items_of_run r) (items_of runs) looks) (omega (arith, len, few))
          (first_apart r runs maximal),
    )
