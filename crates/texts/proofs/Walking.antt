-- What a walk over a list has next stands where it is.
use Rattle.std.proofs.Common.{◌≡◌, ℕ, zero, suc, ◌+◌, List, [], ◌∷◌, drop, slice_get, Some, ap, ◌∙◌, arith}

pub next_at : {X : Type 0} (n : ℕ) (xs rest : List X) (x : X) → drop n xs ≡ x ∷ rest
    → (slice_get xs n ≡ Some x) × (drop (n + 1) xs ≡ rest)
next_at zero [] rest x at = absurd cc
next_at {X = X} zero (y ∷ xs) rest x at = (ap (λ (l : List X). slice_get l 0) at, ap (λ (l : List X). drop 1 l) at)
next_at (suc n) [] rest x at = absurd cc
next_at {X = X} (suc n) (y ∷ xs) rest x at =
    let (here, left) = next_at n xs rest x at in
    let next : suc n + 1 ≡ suc (n + 1) = omega arith in
    (here, ap (λ (k : ℕ). drop k (y ∷ xs)) next ∙ left)
