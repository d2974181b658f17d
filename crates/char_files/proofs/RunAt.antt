-- A character of runs, by the run that it stands in.
use Rattle.std.proofs.Common.{◌≡◌, ℕ, ◌+◌, ◌<◌, List, length, get_or, take, Some, inl, inr}
use Rattle.std.proofs.Common.{sym, ap, ◌∙◌, arith}
use Rattle.std.specs.Prelude.{slice_get}
use Rattle.std.proofs.lemmas.Bool.{cases_lt}
use Rattle.std.proofs.lemmas.List.{take_all, get_or-map, get_or_default, length-map}
use Rattle.std.proofs.lemmas.List.Concat.{get_or-flat_map}
use Rattle.std.proofs.lemmas.Option.{slice_get-get_or}
use Rattle.looks.specs.declared.looks.Looks.{Looks}
use Rattle.char_files.specs.Stretch.{Stretch, Item, items_of, items_of_run}

-- a run that has a character of all isn't after the last one
inside_runs : (runs : List Stretch) (i j pos : ℕ) → length (items_of (take i runs)) + j ≡ pos
    → pos < length (items_of runs) → i < length runs
inside_runs runs i j pos before inside =
    elim (cases_lt i (length runs)) [
      | inl lt ↦ lt
      | inr le ↦ absurd (omega (arith, ap (λ (rs : List Stretch). length (items_of rs)) (take_all i runs le)))
    ]

-- the run was read twice: where the test held, and where the character is taken
pub item_of_run : (runs : List Stretch) (i j pos : ℕ) (q r : Stretch) (tested bytes : List ℕ) (looks : Looks)
    → length (items_of (take i runs)) + j ≡ pos → pos < length (items_of runs) → q ≡ get_or runs i q
    → tested ≡ q.bytes → j < length tested → r ≡ get_or runs i r → bytes ≡ r.bytes → looks ≡ r.looks
    → slice_get (items_of runs) pos ≡ Some (get_or bytes j 0, looks)
item_of_run runs i j pos q r tested bytes looks before inside q_is q_bytes lt is same_bytes same_looks =
    let here : Item = (0, r.looks) in
    let index : i < length runs = inside_runs runs i j pos before inside in
    let one : q ≡ r = q_is ∙ get_or_default runs i q r index ∙ sym is in
    let shorter : j < length r.bytes =
    omega (arith, ap length q_bytes, ap (λ (s : Stretch). length s.bytes) one) in
    let of_run : length (items_of_run r) ≡ length r.bytes = length-map r.bytes (λ b. (b, r.looks)) in
    let there : j < length (items_of_run (get_or runs i r)) =
    omega (arith, of_run, ap (λ (s : Stretch). length (items_of_run s)) is) in
    let at : get_or (items_of runs) (length (items_of (take i runs)) + j) here
    ≡ get_or (items_of_run (get_or runs i r)) j here =
    get_or-flat_map items_of_run runs i j r here index there in
    let read : get_or (items_of_run r) j here ≡ (get_or r.bytes j 0, r.looks) =
    get_or-map (λ b. (b, r.looks)) r.bytes j 0 here shorter in
    slice_get-get_or (items_of runs) pos here inside
    ∙ ap (λ (k : ℕ). Some (get_or (items_of runs) k here)) (sym before)
    ∙ ap (λ (x : Item). Some x) (at ∙ ap (λ (s : Stretch). get_or (items_of_run s) j here) (sym is) ∙ read)
    ∙ ap (λ (bs : List ℕ). Some (get_or bs j 0, r.looks)) (sym same_bytes)
    ∙ ap (λ (l : Looks). Some (get_or bytes j 0, l)) (sym same_looks)
