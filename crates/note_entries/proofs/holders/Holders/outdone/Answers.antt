use Rattle.std.proofs.Common.{ap, subst}
use Rattle.note_laws.specs.Note.{Claim}
use Rattle.note_entries.specs.Claims.{IsUnclaimed}
use Rattle.note_entries.proofs.holders.Holders.outdone.Goals as goal

pub returns-in-None : goal.returns-in-None
returns-in-None c = subst (IsUnclaimed c.args.self.now) (ap (λ (c : Claim). c.site) c.claim.view_is) c.in-None.ensures.none
