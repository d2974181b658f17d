-- Where a member stands among others.
use Rattle.std.specs.Prelude.{◌≡◌, ℕ, List, ◌∷◌, ◌++◌, length}

-- so many members stand before one of this tag
abbrev pub IsSlot : List (ℕ × ℕ) → ℕ → ℕ → Type 0
IsSlot items tag slot = (before : List (ℕ × ℕ)) × (after : List (ℕ × ℕ)) × (weight : ℕ)
    × (items ≡ before ++ (tag, weight) ∷ after) × (slot ≡ length before)
