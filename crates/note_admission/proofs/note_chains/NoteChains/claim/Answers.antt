use Rattle.std.proofs.Common.{sym, subst}
use Rattle.note_laws.specs.Note.{Claim}
use Rattle.note_admission.specs.Standing.{AreChainsOf, ChainsSeen, CanBeClaimed}
use Rattle.note_admission.proofs.Standing.{holds_still}
use Rattle.note_admission.proofs.note_chains.NoteChains.claim.Goals as goal

pub returns-clause-kept : goal.returns-clause-kept
returns-clause-kept c = λ note entries told are.
    let was = subst (λ (chains : ChainsSeen). AreChainsOf chains note entries) (sym c.self.view_is) are in
    record {
      opens = was.opens;
      identified = was.identified;
      base = was.base;
      told = told;
      kept = c.in_ok-claimed.ensures.kept entries told was.kept;
    }

pub returns-clause-places : goal.returns-clause-places
returns-clause-places c = λ note entries told are.
    let was = subst (λ (chains : ChainsSeen). AreChainsOf chains note entries) (sym c.self.view_is) are in
    holds_still _ note entries was c.args.claim c.takes_number.result c.in_ok-claimed.claimed
    (λ other free. c.takes_number.ensures other (c.is_open-is_open.ensures
    (subst (λ (claim : Claim). CanBeClaimed c.args.self.now claim.site) (sym c.claim.view_is)
    (subst (λ (chains : ChainsSeen). CanBeClaimed chains c.args.claim.site) c.self.view_is free))))
    (c.in_ok-claimed.ensures.places note entries told was.kept)
