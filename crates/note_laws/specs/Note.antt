-- A note, as its opened entries give it, and who holds its numbers.
use Rattle.std.specs.Prelude.{◌≡◌, ◌≢◌, ℕ, ◌≤◌, List, Option, Contains}
use Rattle.operations.specs.Operation.{Operation}

-- A message that an author said: his key, the message's hash, that of the message before it (0 for the first), what
-- it builds on, and its operation. Keys and hashes are 32 bytes, read as numbers, the first byte as the highest.
pub record Saying : Type 0 where
  pub author : ℕ
  pub hash : ℕ
  pub before : ℕ
  pub on : Option ℕ
  pub op : Operation

-- an author claims a number
pub record Claim : Type 0 where
  pub author : ℕ
  pub site : ℕ
  pub rank : ℕ

-- what the opening and the base fix for good: who founded the note, his number (0 where he has none), the messages
-- that were copied into it, and the digest of hashes that the note's key gives
pub record Note : Type 0 where
  pub founder : ℕ
  pub number : ℕ
  pub base : List Saying
  pub digest : List ℕ → ℕ

-- the claims and the messages of all other entries; lists, read as sets
pub record Entries : Type 0 where
  pub claims : List Claim
  pub said : List Saying

-- the base has messages of this number
abbrev pub IsOfBase : Note → ℕ → Type 0
IsOfBase note site = (s : Saying) × Contains note.base s × (s.op.site ≡ site)

-- of the claims of its number it has the least rank
pub record IsLeastClaim (claims : List Claim) (claim : Claim) : Type 0 where
  pub made : Contains claims claim
  pub least : (other : Claim) → Contains claims other → claim.site ≡ other.site → claim.rank ≤ other.rank

-- a number of the base is nobody's; the founder's is his; any other is its claimant's who has the least rank
pub record IsHolder (note : Note) (entries : Entries) (site author : ℕ) : Type 0 where
  pub free : ¬ IsOfBase note site
  pub founder : site ≡ note.number → author ≡ note.founder
  pub claimed : site ≢ note.number
      → (claim : Claim) × IsLeastClaim entries.claims claim × (claim.site ≡ site) × (claim.author ≡ author)
