-- A note's entries as they come, and those that are kept of them.
use Rattle.std.specs.Prelude.{◌↔◌, [], ◌∷◌, ◌++◌, Contains}
use Rattle.note_laws.specs.Note.{Entries, Saying, Claim, IsLeastClaim}
use Rattle.note_laws.specs.Chains.{IsLeastBranch}

-- no entries
abbrev pub no_entries : Entries
no_entries = record { claims = []; said = [] }

-- one claim more
abbrev pub with_claim : Entries → Claim → Entries
with_claim entries claim = record { claims = entries.claims ++ claim ∷ []; said = entries.said }

-- one message more
abbrev pub with_saying : Entries → Saying → Entries
with_saying entries s = record { claims = entries.claims; said = entries.said ++ s ∷ [] }

-- of each number the claim of least rank is kept, of messages that follow the same one that of least hash
pub record AreKeptOf (entries kept : Entries) : Type 0 where
  pub claims : (claim : Claim) → Contains kept.claims claim ↔ IsLeastClaim entries.claims claim
  pub said : (s : Saying) → Contains kept.said s ↔ IsLeastBranch entries.said s
