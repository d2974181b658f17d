-- The claims that are kept, and what a further one does to them.
use Rattle.std.specs.Prelude.{◌≡◌, ◌≢◌, ℕ, ◌<◌, ◌≤◌, ◌⊎◌, ◌↔◌, List, Contains}
use Rattle.std.specs.Prelude.{Option, Some, None}
use Rattle.note_laws.specs.Note.{Claim, Saying}
use Rattle.note_entries.specs.declared.holders.Claimed.{Claimed}
use Rattle.note_entries.specs.declared.holders.Claimed.TheVariants.{Same, First, Other}

-- the author claims the number
abbrev pub IsClaimant : List Claim → (site author : ℕ) → Type 0
IsClaimant claims site author =
    (claim : Claim) × Contains claims claim × (claim.site ≡ site) × (claim.author ≡ author)

-- nobody does
abbrev pub IsUnclaimed : List Claim → ℕ → Type 0
IsUnclaimed claims site = (claim : Claim) → Contains claims claim → claim.site ≢ site

-- the claim is its number's, and each other number has what it had
abbrev pub IsPutClaim : (old : List Claim) → Claim → (new : List Claim) → Type 0
IsPutClaim old claim new = (c : Claim) → Contains new c ↔ (Contains old c × (claim.site ≢ c.site)) ⊎ (c ≡ claim)

-- what a claim does to another of its number: that one stays, or is outdone by its own author or by another
abbrev pub Outdoes : (kept : Claim) → Claim → Option Claimed → Type 0
Outdoes kept claim None = kept.rank ≤ claim.rank
Outdoes kept claim (Some Same) = claim.rank < kept.rank × (kept.author ≡ claim.author)
Outdoes kept claim (Some First) = ⊥
Outdoes kept claim (Some Other) = claim.rank < kept.rank × (kept.author ≢ claim.author)

-- so to the one that is kept
abbrev pub IsOverKept : List Claim → Claim → Option Claimed → Type 0
IsOverKept old claim r = (kept : Claim) × Contains old kept × (kept.site ≡ claim.site) × Outdoes kept claim r

-- the same where none may be kept
abbrev pub OutdoesKept : List Claim → Claim → Option Claimed → Type 0
OutdoesKept old claim (Some First) = IsUnclaimed old claim.site
OutdoesKept old claim None = IsOverKept old claim None
OutdoesKept old claim (Some Same) = IsOverKept old claim (Some Same)
OutdoesKept old claim (Some Other) = IsOverKept old claim (Some Other)

-- What a claim does: the number's claimant stays, whose rank isn't greater, or who claims it with a lesser one; it is
-- the number's first claim; it takes the number from another.
abbrev pub Claims : (old : List Claim) → Claim → Claimed → (new : List Claim) → Type 0
Claims old claim Same new = (OutdoesKept old claim None × (new ≡ old))
    ⊎ (OutdoesKept old claim (Some Same) × IsPutClaim old claim new)
Claims old claim First new = OutdoesKept old claim (Some First) × IsPutClaim old claim new
Claims old claim Other new = OutdoesKept old claim (Some Other) × IsPutClaim old claim new

-- whose places it takes: those of its number, where that was another's
abbrev pub TakesNumberOf : Claim → Claimed → Saying → Type 0
TakesNumberOf claim Same s = ⊥
TakesNumberOf claim First s = ⊥
TakesNumberOf claim Other s = s.op.site ≡ claim.site
