use Rattle.std.proofs.Common.{refl}
use Rattle.note_entries.proofs.Coming.{on_claim}
use Rattle.note_entries.proofs.Holding.{all_with_claim}
use Rattle.note_entries.proofs.kept_entries.KeptEntries.claim.Goals as goal

pub returns-clause-kept : goal.returns-clause-kept
returns-clause-kept c =
    rw (← c.self.view_is) (on_claim c.claim.result c.args.claim _ _ c.claim.ensures.ok refl)

pub returns-clause-places : goal.returns-clause-places
returns-clause-places c =
    rw (← c.self.view_is) (all_with_claim c.claim.result c.args.claim _ _ c.claim.ensures.ok)
