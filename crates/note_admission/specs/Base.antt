-- The messages of a note's base, by where in a text they stand.
use Rattle.std.specs.Prelude.{◌≡◌, ◌≢◌, ℕ, ◌⊎◌, ◌↔◌, nat_eq, Bool, List, Contains, IsSome}
use Rattle.std.specs.Map.{lookup, values_of}
use Rattle.std.specs.declared.cmp.Ordering.{Ordering}
use Rattle.std.specs.Ordering.{eq_by_cmp, nat_cmp, ordering_then}
use Rattle.note_laws.specs.Note.{Saying}
use Rattle.note_entries.specs.Keyed.{StandUnderKeys}
use Rattle.note_admission.specs.Kept.{BaseSites}

-- a text, a number and a seq
pub record Spot : Type 0 where
  pub text : ℕ
  pub site : ℕ
  pub seq : ℕ

-- the order of spots, by one part after the other
abbrev pub spot_cmp : Spot → Spot → Ordering
spot_cmp a b = ordering_then (nat_cmp a.text b.text) (ordering_then (nat_cmp a.site b.site) (nat_cmp a.seq b.seq))

-- whether two spots are one
abbrev pub is_same_spot : Spot → Spot → Bool
is_same_spot = eq_by_cmp spot_cmp

-- where a message stands
abbrev pub message_spot : Saying → Spot
message_spot s = record { text = s.op.text; site = s.op.site; seq = s.op.seq }

-- some are of this number
abbrev pub HasSite : List Saying → ℕ → Type 0
HasSite said site = (s : Saying) × Contains said s × (s.op.site ≡ site)

-- of each spot that has messages one is kept
pub record AreOneOfEach (all kept : List Saying) : Type 0 where
  pub among : (s : Saying) → Contains kept s → Contains all s
  pub each : (s : Saying) → Contains all s → (k : Saying) × Contains kept k × (message_spot k ≡ message_spot s)

-- both have the same numbers
abbrev pub IsListed : BaseSites → List ℕ → Type 0
IsListed known sites = (site : ℕ) → IsSome (lookup (nat_eq site) known) ↔ Contains sites site

-- each message stands under its spot, and the numbers are theirs
pub record AreFound (said : List (Spot × Saying)) (known : BaseSites) (sites : List ℕ) : Type 0 where
  pub keyed : StandUnderKeys is_same_spot message_spot said
  pub listed : IsListed known sites
  pub theirs : (site : ℕ) → Contains sites site ↔ HasSite (values_of said) site

-- the message stands in its spot now, and each other spot has what it had
abbrev pub IsPutAt : (old : List Saying) → Saying → (new : List Saying) → Type 0
IsPutAt old s new = (x : Saying) → Contains new x ↔ (Contains old x × (message_spot s ≢ message_spot x)) ⊎ (x ≡ s)
