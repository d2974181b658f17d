use Rattle.std.proofs.Common.{◌≡◌, Some, sym, subst, ◌∙◌}
use Rattle.std.specs.Prelude.{IfNone, IfSome}
use Rattle.std.proofs.lemmas.Bool.{false≢true}
use Rattle.note_admission.specs.Standing.{ChainsSeen}
use Rattle.note_admission.proofs.Standing.{HoldsNumber, NobodyHolds, no_claimant, some_claimant}
use Rattle.note_admission.proofs.note_chains.NoteChains.holder.Goals as goal

pub returns-clause-some : goal.returns-clause-some
returns-clause-some c =
    subst (λ (chains : ChainsSeen). IfSome c.claimant.result (HoldsNumber chains c.args.site)) c.self.view_is
    (some_claimant _ c.args.site c.is_founders.ensures.above
    (λ own. false≢true (sym c.if-is_founders.false ∙ c.is_founders.ensures.own.1
    (subst (λ (chains : ChainsSeen). chains.opening.number ≡ Some c.args.site) c.self.view_is own)))
    c.claimant.result c.claimant.ensures.some)

pub returns-clause-none : goal.returns-clause-none
returns-clause-none c =
    subst (λ (chains : ChainsSeen). IfNone c.claimant.result (NobodyHolds chains c.args.site)) c.self.view_is
    (no_claimant _ c.args.site c.is_founders.ensures.above
    (λ own. false≢true (sym c.if-is_founders.false ∙ c.is_founders.ensures.own.1
    (subst (λ (chains : ChainsSeen). chains.opening.number ≡ Some c.args.site) c.self.view_is own)))
    c.claimant.result c.claimant.ensures.none)
