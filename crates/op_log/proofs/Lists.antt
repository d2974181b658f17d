-- Places in a list, and in one that has one element more.
use Rattle.std.proofs.Common.{◌≡◌, ℕ, zero, suc, ◌<◌, ◌⊎◌, inl, inr, List, [], ◌∷◌, ◌++◌, length, Some}
use Rattle.std.proofs.Common.{slice_get, Contains, refl, ap, arith}
use Rattle.std.proofs.lemmas.Option.{none-some, same_Some}

module _ {X : Type 0} where
  -- what stands at a slot is an element
  pub Contains-slice_get : (xs : List X) (k : ℕ) (x : X) → slice_get xs k ≡ Some x → Contains xs x
  Contains-slice_get [] k x is = absurd (none-some x is)
  Contains-slice_get (y ∷ ys) zero x is = (0, omega arith, same_Some y x is)
  Contains-slice_get (y ∷ ys) (suc k) x is =
      let (j, lt, at) = Contains-slice_get ys k x is in (suc j, omega arith, at)

  -- within the list something stands
  pub slice_get-some : (xs : List X) (k : ℕ) → k < length xs → (x : X) × (slice_get xs k ≡ Some x)
  slice_get-some [] k lt = absurd (omega arith)
  slice_get-some (y ∷ ys) zero lt = (y, refl)
  slice_get-some (y ∷ ys) (suc k) lt = slice_get-some ys k (omega arith)

  -- an element stays where it is
  pub slice_get-append_left : (xs ys : List X) (k : ℕ) (x : X) → slice_get xs k ≡ Some x
      → slice_get (xs ++ ys) k ≡ Some x
  slice_get-append_left [] ys k x is = absurd (none-some x is)
  slice_get-append_left (y ∷ xs) ys zero x is = is
  slice_get-append_left (y ∷ xs) ys (suc k) x is = slice_get-append_left xs ys k x is

  -- the new element is the last
  pub slice_get-push : (xs : List X) (y : X) → slice_get (xs ++ y ∷ []) (length xs) ≡ Some y
  slice_get-push [] y = refl
  slice_get-push (x ∷ xs) y = slice_get-push xs y

  -- what stands at a slot stood there, or is the new element
  pub slice_get-push_cases : (xs : List X) (y : X) (k : ℕ) (x : X) → slice_get (xs ++ y ∷ []) k ≡ Some x
      → (slice_get xs k ≡ Some x) ⊎ ((k ≡ length xs) × (y ≡ x))
  slice_get-push_cases [] y zero x is = inr (refl, same_Some y x is)
  slice_get-push_cases [] y (suc k) x is = absurd (none-some x is)
  slice_get-push_cases (z ∷ xs) y zero x is = inl is
  slice_get-push_cases (z ∷ xs) y (suc k) x is =
      elim (slice_get-push_cases xs y k x is) [
        | inl here ↦ inl here
        | inr new ↦ inr (ap suc new.0, new.1)
      ]
