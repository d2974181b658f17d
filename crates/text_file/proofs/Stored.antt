-- A formatted file, written part by part.
use Rattle.std.proofs.Common.{◌≡◌, ℕ, ◌+◌, ◌<◌, ◌≤◌, List, [], ◌∷◌, ◌++◌, length, get_or, take, zero, suc}
use Rattle.std.proofs.Common.{Some, sym, ap, subst, ◌∙◌, length-append, arith}
use Rattle.std.specs.Prelude.{slice_get}
use Rattle.std.specs.Int.{w32}
use Rattle.std.specs.List.{flat_map}
use Rattle.std.proofs.lemmas.List.{take_more}
use Rattle.std.proofs.lemmas.Option.{slice_get-get_or}
use Rattle.looks.specs.Looks.{IsLooks}
use Rattle.char_files.specs.Runs.{maximal_runs, NoOtherRuns}
use Rattle.char_files.specs.Stretch.{Stretch, Item, items_of, AreRuns}
use Rattle.byte_fields.specs.Fields.{number_spelling}
use Rattle.text_file.specs.Files.{text_tag, run_spelling, formatted}
use Rattle.text_file.proofs.Cuts.{InLooks, chars_of, items_chars, items_len, some_len, first_some, other_runs}
use Rattle.text_file.proofs.Texts.{bytes_of}

-- ---- a source that is copied

pub copied_more : (items text new : List Item) (pos : ℕ) (item : Item) → pos < length items
    → text ≡ take pos items → slice_get items pos ≡ Some item → new ≡ text ++ item ∷ []
    → new ≡ take (pos + 1) items
copied_more items text new pos item lt so_far is pushed =
    let read : ◌≡◌ (Some (get_or items pos item)) (Some item) =
    sym (slice_get-get_or items pos item lt) ∙ is in
    let same : get_or items pos item ≡ item = cc in
    pushed ∙ ap (λ (t : List Item). t ++ item ∷ []) so_far
    ∙ ap (λ (i : Item). take pos items ++ i ∷ []) (sym same) ∙ sym (take_more items pos item lt)

in_looks_last : (text : List Item) (item : Item) → InLooks text → IsLooks item.1
    → InLooks (text ++ item ∷ [])
in_looks_last [] item all is = (is, tt)
in_looks_last (c ∷ text) item all is = (all.0, in_looks_last text item all.1 is)

pub in_looks_more : (text new : List Item) (item : Item) → new ≡ text ++ item ∷ [] → InLooks text
    → IsLooks item.1 → InLooks new
in_looks_more text new item pushed all is = subst InLooks (sym pushed) (in_looks_last text item all is)

-- ---- runs that are written

pub run_few : (runs : List Stretch) (i : ℕ) (r : Stretch) → i < length runs → r ≡ get_or runs i r
    → length r.bytes ≤ length (items_of runs)
run_few [] i r lt e = absurd (omega arith)
run_few (s ∷ runs) zero r lt e =
    omega (
      arith,
      ap (λ (x : Stretch). length x.bytes) e,
      items_len (s ∷ runs),
      length-append s.bytes (chars_of runs),
    )
run_few (s ∷ runs) (suc i) r lt e =
    omega (
      arith,
      run_few runs i r (omega arith) e,
      items_len (s ∷ runs),
      items_len runs,
      length-append s.bytes (chars_of runs),
    )

pub runs_few : (runs : List Stretch) → AreRuns runs → length runs ≤ length (items_of runs)
runs_few [] h = omega arith
runs_few (r ∷ runs) h =
    omega (
      arith,
      runs_few runs (other_runs r runs h),
      some_len r.bytes (first_some r runs h),
      items_len (r ∷ runs),
      items_len runs,
      length-append r.bytes (chars_of runs),
    )

-- what a formatted file has after the tag, by its runs
abbrev with_runs : List Stretch → ℕ → List ℕ → List ℕ
with_runs runs len chars =
    text_tag ++ number_spelling w32 (length runs) ++ flat_map run_spelling runs ++ number_spelling w32 len ++ chars

pub stored : NoOtherRuns → (text : List Item) (runs : List Stretch) (a b c d e : List ℕ) → AreRuns runs
    → items_of runs ≡ text → a ≡ text_tag → b ≡ a ++ number_spelling w32 (length runs)
    → c ≡ b ++ flat_map run_spelling runs → d ≡ c ++ number_spelling w32 (length text)
    → e ≡ d ++ chars_of runs → e ≡ formatted text
unfolding formatted
stored only text runs a b c d e are is a_is b_is c_is d_is e_is =
    let maximal : maximal_runs text ≡ runs = ap maximal_runs (sym is) ∙ only runs are in
    let bytes : bytes_of text ≡ chars_of runs = ap bytes_of (sym is) ∙ items_chars runs in
    let n : List ℕ = number_spelling w32 (length runs) in
    let spelled : List ℕ = flat_map run_spelling runs in
    let len : List ℕ = number_spelling w32 (length text) in
    let with_tag : b ≡ text_tag ++ n = b_is ∙ ap (λ (l : List ℕ). l ++ n) a_is in
    let with_heads : c ≡ text_tag ++ n ++ spelled = c_is ∙ ap (λ (l : List ℕ). l ++ spelled) with_tag in
    let with_len : d ≡ text_tag ++ n ++ spelled ++ len = d_is ∙ ap (λ (l : List ℕ). l ++ len) with_heads in
    e_is ∙ ap (λ (l : List ℕ). l ++ chars_of runs) with_len
    ∙ ap (λ (rs : List Stretch). with_runs rs (length text) (chars_of runs)) (sym maximal)
    ∙ ap (λ (cs : List ℕ). with_runs (maximal_runs text) (length text) cs) (sym bytes)
