-- What a contract sees of an index.
use Rattle.std.specs.Prelude.{◌≡◌, ℕ, ◌+◌, ◌<◌, List, ◌∷◌, ◌++◌, map, sum}

-- the members in order, each its tag and its weight; their keys by tag; and how many insertions take no memory
pub record Ranked : Type 0 where
  pub items : List (ℕ × ℕ)
  pub keys : List ℕ
  pub room : ℕ

abbrev pub ranked : List (ℕ × ℕ) → List ℕ → ℕ → Ranked
ranked items keys room = record { items = items; keys = keys; room = room }

-- the sum of the members' weights
abbrev pub weight_of : List (ℕ × ℕ) → ℕ
weight_of items = sum (map (λ m. m.1) items)

-- so much weight stands before the member of this tag
abbrev pub IsRank : List (ℕ × ℕ) → ℕ → ℕ → Type 0
IsRank items tag n = (before : List (ℕ × ℕ)) × (after : List (ℕ × ℕ)) × (weight : ℕ)
    × (items ≡ before ++ (tag, weight) ∷ after) × (n ≡ weight_of before)

-- the member of this tag is the one whose stretch of the sum holds a position, so far after the stretch's start
abbrev pub IsFound : List (ℕ × ℕ) → ℕ → ℕ → ℕ → Type 0
IsFound items pos tag within = (before : List (ℕ × ℕ)) × (after : List (ℕ × ℕ)) × (weight : ℕ)
    × (items ≡ before ++ (tag, weight) ∷ after) × (pos ≡ weight_of before + within) × (within < weight)
