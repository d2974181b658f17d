-- What the sums and the least keys of groups of chunks are.
use Rattle.std.specs.Prelude.{◌≡◌, ℕ, ◌+◌, ◌-◌, ◌*◌, ◌^◌, ◌<◌, ◌≤◌, List, [], ◌∷◌, length, take, drop, get_or, min}
use Rattle.rank_index.specs.declared.groups.TheConstants.{GROUP}
use Rattle.rank_index.specs.Chunks.{ChunkSeen, members_of}
use Rattle.rank_index.specs.Ranked.{weight_of}

-- what the first chunks weigh, so many of them
abbrev pub weight_to : List ChunkSeen → ℕ → ℕ
weight_to chunks n = weight_of (members_of (take n chunks))

-- each sum is that of the next chunks, one group of them, from the front on
abbrev pub AreSums : List ℕ → List ChunkSeen → Type 0
AreSums groups chunks = (k : ℕ) → k < length groups
    → weight_to chunks (GROUP * k) + get_or groups k 0 ≡ weight_to chunks (GROUP * (k + 1))

-- and no chunk is left out
pub record AreGroups (groups : List ℕ) (chunks : List ChunkSeen) : Type 0 where
  pub sums : AreSums groups chunks
  pub all : length chunks ≤ GROUP * length groups

-- the least of the keys that these chunks tell, the greatest u64 where there are none
abbrev pub least_among : List ChunkSeen → ℕ
least_among [] = 2 ^ 64 - 1
least_among (c ∷ chunks) = min c.least (least_among chunks)

-- each key is the least of the next chunks, one group of them, from the front on
abbrev pub AreLowsSoFar : List ℕ → List ChunkSeen → Type 0
AreLowsSoFar lows chunks = (k : ℕ) → k < length lows
    → get_or lows k 0 ≡ least_among (take GROUP (drop (GROUP * k) chunks))

-- and no chunk is left out
pub record AreLows (lows : List ℕ) (chunks : List ChunkSeen) : Type 0 where
  pub told : AreLowsSoFar lows chunks
  pub all : length chunks ≤ GROUP * length lows
