-- A rising list is told by its elements.
use Rattle.std.proofs.Common.{◌≡◌, ℕ, zero, suc, ◌<◌, List, [], ◌∷◌, inl, inr, refl, sym, subst, arith}
use Rattle.std.specs.Prelude.{AllPairs, Contains}
use Rattle.std.proofs.lemmas.Bool.{cases_lt}
use Rattle.operations.specs.Operation.{Operation}
use Rattle.set_laws.specs.Fronts.{AreSites}

-- each element is below all later ones
abbrev IsRising : List ℕ → Type 0
IsRising xs = AllPairs (λ a b. a < b) xs

rising_rest : (x : ℕ) (xs : List ℕ) → IsRising (x ∷ xs) → IsRising xs
rising_rest x xs rise i j d lt within = rise (suc i) (suc j) d (omega arith) (omega arith)

below_rest : (x : ℕ) (xs : List ℕ) (y : ℕ) → IsRising (x ∷ xs) → Contains xs y → x < y
below_rest x xs y rise (k, within, is) = subst (λ (z : ℕ). x < z) is (rise zero (suc k) y (omega arith) (omega arith))

-- what is in a list that begins so is its first element or in the rest
is_first : (x : ℕ) (xs : List ℕ) (y : ℕ) → Contains (x ∷ xs) y → (x ≡ y → ⊥) → Contains xs y
is_first x xs y (zero, within, is) apart = absurd (apart is)
is_first x xs y (suc k, within, is) apart = (k, omega arith, is)

-- the first is in a list, and so is what is in the rest
pub here : (x : ℕ) (xs : List ℕ) → Contains (x ∷ xs) x
here x xs = (zero, omega arith, refl)

pub there : (x : ℕ) (xs : List ℕ) (y : ℕ) → Contains xs y → Contains (x ∷ xs) y
there x xs y (k, within, is) = (suc k, omega arith, is)

-- the elements of the first list are in the second
abbrev AreIn : (xs ys : List ℕ) → Type 0
AreIn xs ys = (z : ℕ) → Contains xs z → Contains ys z

not_less : (x : ℕ) (xs : List ℕ) (y : ℕ) (ys : List ℕ) → IsRising (y ∷ ys) → AreIn (x ∷ xs) (y ∷ ys) → x < y → ⊥
not_less x xs y ys rise in_y lt =
    let later : Contains ys x = is_first y ys x (in_y x (here x xs)) (λ e. omega (arith, e, lt)) in
    omega (arith, below_rest y ys x rise later)

rest_in : (x : ℕ) (xs : List ℕ) (y : ℕ) (ys : List ℕ) → IsRising (x ∷ xs) → x ≡ y → AreIn (x ∷ xs) (y ∷ ys)
    → AreIn xs ys
rest_in x xs y ys rise same in_y z at =
    is_first y ys z (in_y z (there x xs z at)) (λ e. omega (arith, e, same, below_rest x xs z rise at))

-- rising lists of the same elements are one
one_rising : (xs ys : List ℕ) → IsRising xs → IsRising ys → AreIn xs ys → AreIn ys xs → xs ≡ ys
one_rising [] [] rise rise' in_ys in_xs = refl
one_rising [] (y ∷ ys) rise rise' in_ys in_xs =
    let (k, within, is) = in_xs y (here y ys) in absurd (omega (arith, within))
one_rising (x ∷ xs) [] rise rise' in_ys in_xs =
    let (k, within, is) = in_ys x (here x xs) in absurd (omega (arith, within))
one_rising (x ∷ xs) (y ∷ ys) rise rise' in_ys in_xs =
    let first : x ≡ y = elim (cases_lt x y) [
      | inl lt ↦ absurd (not_less x xs y ys rise' in_ys lt)
      | inr le ↦ elim (cases_lt y x) [
        | inl lt ↦ absurd (not_less y ys x xs rise in_xs lt)
        | inr le' ↦ omega (arith, le, le')
      ]
    ] in
    let rest : xs ≡ ys = one_rising xs ys (rising_rest x xs rise) (rising_rest y ys rise')
    (rest_in x xs y ys rise first in_ys) (rest_in y ys x xs rise' (sym first) in_xs) in
    λ i. first i ∷ rest i

-- the sites that have operations are one list
pub one_sites : (ops : List Operation) (sites sites' : List ℕ) → AreSites ops sites → AreSites ops sites'
    → sites ≡ sites'
one_sites ops sites sites' are are' = one_rising sites sites' are.rising are'.rising
    (λ z at. (are'.all z).1 ((are.all z).0 at)) (λ z at. (are.all z).1 ((are'.all z).0 at))
