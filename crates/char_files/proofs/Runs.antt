-- Runs that get more characters at their end.
use Rattle.std.proofs.Common.{◌≡◌, ◌≢◌, ℕ, ◌+◌, ◌-◌, ◌<◌, cond, List, [], ◌∷◌, ◌++◌, length, get_or, set, map, refl}
use Rattle.std.proofs.Common.{take, Result, Ok, Err, Some, subst, sym, ap, ◌∙◌, suc, append_assoc, arith}
use Rattle.std.specs.Prelude.{OnOk, is_ok, slice_get, IsSomeAnd}
use Rattle.std.specs.declared.alloc.AllocError.{AllocError}
use Rattle.std.proofs.Math.Seq.{take-length}
use Rattle.std.proofs.lemmas.List.{take_more, take_more_set, length-set, append-nil, map-append}
use Rattle.std.proofs.lemmas.Option.{slice_get-get_or}
use Rattle.std.proofs.lemmas.List.Concat.{flat_map-append}
use Rattle.looks.specs.declared.looks.Looks.{Looks}
use Rattle.char_files.specs.Stretch.{Stretch, items_of, AreRuns, EndsIn}

-- a list is its front and its last
last_is : {X : Type 0} (xs : List X) (n : ℕ) (x : X) → n + 1 ≡ length xs → x ≡ get_or xs n x
    → xs ≡ take n xs ++ x ∷ []
last_is xs n x len is =
    let whole : take (n + 1) xs ≡ xs = rw len (take-length xs) in
    sym whole ∙ take_more xs n x (omega arith) ∙ ap (λ y. take n xs ++ y ∷ []) (sym is)

-- a list whose last is replaced is its front and the new last
set-last : {X : Type 0} (xs : List X) (n : ℕ) (y : X) → n + 1 ≡ length xs → set xs n y ≡ take n xs ++ y ∷ []
set-last xs n y len =
    let len' : n + 1 ≡ length (set xs n y) = omega (arith, length-set xs n y) in
    let whole : take (n + 1) (set xs n y) ≡ set xs n y = rw len' (take-length (set xs n y)) in
    sym whole ∙ take_more_set xs n y (omega arith)

-- a run with more bytes
abbrev pub with_bytes : Stretch → List ℕ → Stretch
with_bytes r bs = record r { bytes = r.bytes ++ bs }

pub append_some : (xs ys : List ℕ) → xs ≢ [] → xs ++ ys ≢ []
append_some [] ys some = absurd (some refl)
append_some (x ∷ xs) ys some = λ e. cc

AreRuns-longer : (front : List Stretch) (r : Stretch) (bs : List ℕ) → AreRuns (front ++ r ∷ [])
    → AreRuns (front ++ with_bytes r bs ∷ [])
AreRuns-longer [] r bs h = append_some r.bytes bs h
AreRuns-longer (x ∷ []) r bs h = (h.0, h.1, append_some r.bytes bs h.2)
AreRuns-longer (x ∷ y ∷ ys) r bs h = (h.0, h.1, AreRuns-longer (y ∷ ys) r bs h.2)

items_of-longer : (front : List Stretch) (r : Stretch) (bs : List ℕ) → items_of (front ++ with_bytes r bs ∷ [])
    ≡ items_of (front ++ r ∷ []) ++ map (λ b. (b, r.looks)) bs
items_of-longer front r bs = simp (flat_map-append, append-nil, map-append, append_assoc)

-- a run of other looks may follow
pub AreRuns-push : (runs : List Stretch) (looks : Looks) (bs : List ℕ) → AreRuns runs → ¬ EndsIn runs looks
    → bs ≢ [] → AreRuns (runs ++ record { looks = looks; bytes = bs } ∷ [])
AreRuns-push [] looks bs h apart some = some
AreRuns-push (x ∷ []) looks bs h apart some = (h, apart, some)
AreRuns-push (x ∷ y ∷ ys) looks bs h apart some =
    let k : length (x ∷ y ∷ ys) - 1 ≡ suc (length (y ∷ ys) - 1) = omega arith in
    (h.0, h.1, AreRuns-push (y ∷ ys) looks bs h.2 (λ e. apart (rw k e)) some)

some_runs : (runs : List Stretch) (looks : Looks) → EndsIn runs looks → 0 < length runs
some_runs [] looks ends = elim ends [ ]
some_runs (r ∷ runs) looks ends = omega arith

-- what a push to the last run leaves, where that run has these looks
module _ (runs : List Stretch) (n : ℕ) (looks : Looks) (ends : EndsIn runs looks) (at_end : n ≡ length runs)
    (old new : Stretch) (bs : List ℕ) (is : old ≡ get_or runs (n - 1) old) where
  some : 0 < length runs
  some = some_runs runs looks ends

  parts : runs ≡ take (n - 1) runs ++ old ∷ []
  parts = last_is runs (n - 1) old (omega (arith, some, at_end)) is

  replaced : (r : Stretch) → set runs (n - 1) r ≡ take (n - 1) runs ++ r ∷ []
  replaced r = set-last runs (n - 1) r (omega (arith, some, at_end))

  old_looks : old.looks ≡ looks
  old_looks =
      let ends_at : IsSomeAnd (slice_get runs (n - 1)) (λ r. r.looks ≡ looks) = rw at_end ends in
      let read : slice_get runs (n - 1) ≡ Some old =
      slice_get-get_or runs (n - 1) old (omega (arith, some, at_end))
      ∙ ap (λ (r : Stretch). Some r) (sym is) in
      rw read at ends_at

  pub items_of-push_to_last : (result : Result (Unit {0}) AllocError)
      → new ≡ cond (is_ok result) (with_bytes old bs) old
      → OnOk result (items_of (set runs (n - 1) new) ≡ items_of runs ++ map (λ b. (b, looks)) bs)
  items_of-push_to_last (Ok u) e =
      ap items_of (replaced new ∙ ap (λ (r : Stretch). take (n - 1) runs ++ r ∷ []) e)
      ∙ items_of-longer (take (n - 1) runs) old bs
      ∙ ap (λ (rs : List Stretch). items_of rs ++ map (λ b. (b, old.looks)) bs) (sym parts)
      ∙ ap (λ (l : Looks). items_of runs ++ map (λ b. (b, l)) bs) old_looks
  items_of-push_to_last (Err u) e = tt

  pub AreRuns-push_to_last : (result : Result (Unit {0}) AllocError)
      → new ≡ cond (is_ok result) (with_bytes old bs) old → AreRuns runs → AreRuns (set runs (n - 1) new)
  AreRuns-push_to_last (Ok u) e h =
      let longer = AreRuns-longer (take (n - 1) runs) old bs (subst AreRuns parts h) in
      subst AreRuns (sym (replaced new ∙ ap (λ (r : Stretch). take (n - 1) runs ++ r ∷ []) e)) longer
  AreRuns-push_to_last (Err u) e h =
      subst AreRuns (sym (replaced new ∙ ap (λ (r : Stretch). take (n - 1) runs ++ r ∷ []) e ∙ sym parts)) h
