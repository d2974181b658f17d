-- What the members' keys say: the least of some, and which members a walk passes.
use Rattle.std.specs.Prelude.{◌≡◌, ℕ, ◌-◌, ◌^◌, ◌<◌, ◌≤◌, List, [], ◌∷◌, ◌++◌, All, get_or, min}
use Rattle.rank_index.specs.Chunks.{ChunkSeen}

-- the key of the member of this tag
abbrev pub key_in : List ℕ → ℕ → ℕ
key_in keys tag = get_or keys tag 0

-- the least key of these members, the greatest u64 where there are none
abbrev pub least_of : List ℕ → List (ℕ × ℕ) → ℕ
least_of keys [] = 2 ^ 64 - 1
least_of keys (m ∷ ms) = min (key_in keys m.0) (least_of keys ms)

-- each chunk tells the least key of its members
abbrev pub AreLeast : List ℕ → List ChunkSeen → Type 0
AreLeast keys chunks = All (λ c. c.least ≡ least_of keys c.members) chunks

-- these members' keys are greater than this one
abbrev pub AreAbove : List ℕ → ℕ → List (ℕ × ℕ) → Type 0
AreAbove keys key members = All (λ m. key < key_in keys m.0) members

-- the first of these members, if there is one, has no greater key
abbrev pub BeginAtMost : List ℕ → ℕ → List (ℕ × ℕ) → Type 0
BeginAtMost keys key [] = Unit {0}
BeginAtMost keys key (m ∷ ms) = key_in keys m.0 ≤ key

-- the last of these members' tags, that one where there are none
abbrev pub last_tag_from : ℕ → List (ℕ × ℕ) → ℕ
last_tag_from tag [] = tag
last_tag_from tag (m ∷ ms) = last_tag_from m.0 ms

-- of the members that follow that of a tag, those up to the first whose key isn't greater are passed; the last of them has
-- this other tag
pub record IsPassed (keys : List ℕ) (key : ℕ) (follow : List (ℕ × ℕ)) (tag last : ℕ) : Type 0 where
  pub passed : List (ℕ × ℕ)
  pub rest : List (ℕ × ℕ)
  pub whole : follow ≡ passed ++ rest
  pub above : AreAbove keys key passed
  pub stops : BeginAtMost keys key rest
  pub last_is : last ≡ last_tag_from tag passed

-- the same among all members
abbrev pub IsPassedIn : List ℕ → ℕ → List (ℕ × ℕ) → ℕ → ℕ → Type 0
IsPassedIn keys key items tag last = (before : List (ℕ × ℕ)) × (weight : ℕ) × (follow : List (ℕ × ℕ))
    × (items ≡ before ++ (tag, weight) ∷ follow) × IsPassed keys key follow tag last
