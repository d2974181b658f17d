-- What `any` answers, and tests that ask the same.
use Rattle.std.proofs.Common.{◌≡◌, ℕ, ◌<◌, ◌↔◌, Bool, true, false, MatchBool, List, [], ◌∷◌, length, get_or, Contains}
use Rattle.std.proofs.Common.{refl, sym, subst, arith}
use Rattle.std.specs.List.{AllWithin, HoldsAt}
use Rattle.std.proofs.lemmas.Bool.{false≢true}
use Rattle.std.proofs.lemmas.List.Elements.{Contains-get_or}

-- two tests of one fact answer alike
pub same_test : {P : Type 0} (r s : Bool) → ((r ≡ true) ↔ P) → ((s ≡ true) ↔ P) → r ≡ s
same_test true s h k = sym (k.1 (h.0 refl))
same_test false true h k = h.1 (k.0 refl)
same_test false false h k = refl

module _ {X : Type 0} (P : X → Type 0) where
  -- what stands at a place is an element
  pub held_at : (xs : List X) (k : ℕ) → k < length xs → HoldsAt P xs k → (x : X) × Contains xs x × P x
  held_at [] k lt h = absurd (omega arith)
  held_at (y ∷ ys) k lt h = (get_or (y ∷ ys) k y, Contains-get_or (y ∷ ys) k y lt, h y)

  -- the answer tells whether an element has P
  pub some_one : (xs : List X) (r : Bool)
      → MatchBool r ((k : ℕ) × (k < length xs) × HoldsAt P xs k) (AllWithin (λ x. ¬ P x) xs 0 (length xs))
      → (r ≡ true) ↔ ((x : X) × Contains xs x × P x)
  some_one xs true (k, lt, holds) = (λ e. held_at xs k lt holds, λ h. refl)
  some_one xs false none = (
    λ e. absurd (false≢true e),
    λ h. let (x, (k, lt, at), p) = h in absurd (none k x (omega arith) lt (subst P (sym at) p)),
  )
