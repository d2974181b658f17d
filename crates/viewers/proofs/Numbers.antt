-- Numbers that rise, how often one stands in a list, and where.
use Rattle.std.proofs.Common.{◌≡◌, ℕ, zero, suc, ◌+◌, ◌<◌, ◌≤◌, List, [], ◌∷◌, ◌++◌, length, Bool, true, false, cond, eqb, eqb-true, eq-eqb, refl, ap, arith, get_or}
use Rattle.std.proofs.lemmas.List.Edits.{length-remove}
use Rattle.std.specs.List.{remove, insert}
use Rattle.viewers.specs.Viewers.{AreRising, index_of, times}

-- whether it is this number, as a count
abbrev pub one_if : (w v : ℕ) → ℕ
one_if w v = cond (eqb w v) 1 0

pub one_if_same : (v : ℕ) → one_if v v ≡ 1
one_if_same v = ap (λ b. cond b 1 0) (eq-eqb v v refl)

-- one taken out
pub times_without : (xs : List ℕ) (i v : ℕ) → i < length xs → times v (remove xs i) + one_if (get_or xs i 0) v ≡ times v xs
times_without [] i v lt = absurd (omega (arith, lt))
times_without (x ∷ xs) zero v lt = omega arith
times_without (x ∷ xs) (suc i) v lt = let e = times_without xs i v (omega (arith, lt)) in omega (arith, e)

pub times_both : (xs ys : List ℕ) (v : ℕ) → times v (xs ++ ys) ≡ times v xs + times v ys
times_both [] ys v = omega arith
times_both (x ∷ xs) ys v = let e = times_both xs ys v in omega (arith, e)

-- one put in
pub times_with : (xs : List ℕ) (i x v : ℕ) → times v (insert xs i x) ≡ times v xs + one_if x v
times_with [] zero x v = omega arith
times_with [] (suc i) x v = omega arith
times_with (y ∷ xs) zero x v = omega arith
times_with (y ∷ xs) (suc i) x v = let e = times_with xs i x v in omega (arith, e)

-- one put last
pub times_with_last : (xs : List ℕ) (x v : ℕ) → times v (xs ++ x ∷ []) ≡ times v xs + one_if x v
times_with_last [] x v = omega arith
times_with_last (y ∷ xs) x v = let e = times_with_last xs x v in omega (arith, e)

-- a number that stands in a list has its index there
pub index_there : (xs : List ℕ) (v : ℕ) → 0 < times v xs → (index_of xs v < length xs) × (get_or xs (index_of xs v) 0 ≡ v)
index_there [] v lt = absurd (omega (arith, lt))
index_there (x ∷ xs) v lt = by_test (index_there xs v) (eqb x v) refl lt
  where
    by_test : (0 < times v xs → (index_of xs v < length xs) × (get_or xs (index_of xs v) 0 ≡ v)) → (b : Bool) → eqb x v ≡ b
        → 0 < cond b 1 0 + times v xs
        → (cond b 0 (suc (index_of xs v)) < length (x ∷ xs)) × (get_or (x ∷ xs) (cond b 0 (suc (index_of xs v))) 0 ≡ v)
    by_test more true is lt = (omega arith, eqb-true x v is)
    by_test more false is lt = let e = more (omega (arith, lt)) in let a = e.0 in (omega (arith, a), e.1)

pub index_found : (xs : List ℕ) (v : ℕ) → index_of xs v < length xs → 0 < times v xs
index_found [] v lt = absurd (omega (arith, lt))
index_found (x ∷ xs) v lt = by_test (index_found xs v) (eqb x v) lt
  where
    by_test : (index_of xs v < length xs → 0 < times v xs) → (b : Bool)
        → cond b 0 (suc (index_of xs v)) < length (x ∷ xs) → 0 < cond b 1 0 + times v xs
    by_test more true lt = omega arith
    by_test more false lt = let e = more (omega (arith, lt)) in omega (arith, e)

-- one that doesn't has none
pub index_none : (xs : List ℕ) (v : ℕ) → times v xs ≡ 0 → index_of xs v ≡ length xs
index_none [] v none = refl
index_none (x ∷ xs) v none = by_test (index_none xs v) (eqb x v) none
  where
    by_test : (times v xs ≡ 0 → index_of xs v ≡ length xs) → (b : Bool) → cond b 1 0 + times v xs ≡ 0
        → cond b 0 (suc (index_of xs v)) ≡ length (x ∷ xs)
    by_test more true none = absurd (omega (arith, none))
    by_test more false none = let e = more (omega (arith, none)) in omega (arith, e)

-- two lists in which each number stands as often are as long
pub same_length : (xs ys : List ℕ) → ((v : ℕ) → times v xs ≡ times v ys) → length xs ≡ length ys
same_length [] [] same = refl
same_length [] (y ∷ ys) same =
    let e : 0 ≡ one_if y y + times y ys = same y in let o = one_if_same y in absurd (omega (arith, e, o))
same_length (x ∷ xs) ys same =
    let first : one_if x x + times x xs ≡ times x ys = same x in let o = one_if_same x in
    let at = index_there ys x (omega (arith, first, o)) in
    let more = same_length xs (remove ys (index_of ys x)) (λ v.
    let e : one_if x v + times v xs ≡ times v ys = same v in let r = times_without ys (index_of ys x) v at.0 in
    let k = ap (λ w. one_if w v) at.1 in omega (arith, e, r, k)) in
    let n = length-remove ys (index_of ys x) at.0 in omega (arith, more, n)

-- rising numbers rise from a lower one on
pub rising_from_lower : (low from below : ℕ) (xs : List ℕ) → low ≤ from → AreRising from xs below → AreRising low xs below
rising_from_lower low from below [] le rising = omega (arith, le, rising)
rising_from_lower low from below (x ∷ xs) le rising = (let a = rising.0 in omega (arith, le, a), rising.1)

-- the next number goes on rising
pub rising_next : (from next : ℕ) (xs : List ℕ) → AreRising from xs next → AreRising from (xs ++ next ∷ []) (next + 1)
rising_next from next [] rising = (rising, omega arith)
rising_next from next (x ∷ xs) rising = (rising.0, rising_next (suc x) next xs rising.1)

-- without one of them numbers still rise
pub rising_without : (from below : ℕ) (xs : List ℕ) (i : ℕ) → AreRising from xs below → AreRising from (remove xs i) below
rising_without from below [] zero rising = rising
rising_without from below [] (suc i) rising = rising
rising_without from below (x ∷ xs) zero rising =
    let a = rising.0 in rising_from_lower from (suc x) below xs (omega (arith, a)) rising.1
rising_without from below (x ∷ xs) (suc i) rising = (rising.0, rising_without (suc x) below xs i rising.1)

-- none of them is lower than the first, and none reaches the next
pub rising_bounds : (from below : ℕ) (xs : List ℕ) → AreRising from xs below → from ≤ below
rising_bounds from below [] rising = rising
rising_bounds from below (x ∷ xs) rising =
    let e = rising_bounds (suc x) below xs rising.1 in let a = rising.0 in omega (arith, e, a)

one_if_apart : (x v : ℕ) → (x ≡ v → ⊥) → one_if x v ≡ 0
one_if_apart x v apart = by_test (eqb x v) refl
  where
    by_test : (b : Bool) → eqb x v ≡ b → ◌≡◌ {A = ℕ} (cond b 1 0) 0
    by_test true is = absurd (apart (eqb-true x v is))
    by_test false is = refl

pub none_lower : (from below v : ℕ) (xs : List ℕ) → AreRising from xs below → v < from → times v xs ≡ 0
none_lower from below v [] rising lt = refl
none_lower from below v (x ∷ xs) rising lt =
    let a = rising.0 in let e = none_lower (suc x) below v xs rising.1 (omega (arith, lt, a)) in
    let n = one_if_apart x v (λ same. omega (arith, lt, a, same)) in omega (arith, e, n)

pub none_next : (from below v : ℕ) (xs : List ℕ) → AreRising from xs below → below ≤ v → times v xs ≡ 0
none_next from below v [] rising le = refl
none_next from below v (x ∷ xs) rising le =
    let b = rising_bounds (suc x) below xs rising.1 in
    let e = none_next (suc x) below v xs rising.1 le in
    let n = one_if_apart x v (λ same. omega (arith, le, b, same)) in omega (arith, e, n)
