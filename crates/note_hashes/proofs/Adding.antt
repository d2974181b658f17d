-- What was added to a hasher part by part.
use Rattle.std.proofs.Common.{◌≡◌, ℕ, List, [], ◌∷◌, ◌++◌, append_assoc}

pub two-added : (k : List ℕ) (a : ℕ) (b : List ℕ) → (k ++ a ∷ []) ++ b ≡ k ++ a ∷ b
two-added k a b = append_assoc k (a ∷ []) b

pub five-added : (k : List ℕ) (a : ℕ) (b c d e : List ℕ)
    → ((((k ++ a ∷ []) ++ b) ++ c) ++ d) ++ e ≡ k ++ a ∷ (b ++ (c ++ (d ++ e)))
five-added k a b c d e = simp (append_assoc)
