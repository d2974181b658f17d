use Rattle.std.proofs.Common.{sym, subst, ◌∙◌}
use Rattle.std.specs.Prelude.{IfNone, IfSome}
use Rattle.std.proofs.lemmas.Bool.{false≢true}
use Rattle.note_admission.specs.Standing.{ChainsSeen}
use Rattle.note_admission.proofs.Standing.{HoldsNumber, NobodyHolds, NoneStands, Stands, base_stands, holder_stands, no_base_stands, no_holder_stands, nobody_stands}
use Rattle.note_admission.proofs.note_chains.NoteChainsChains.at.Goals as goal

pub returns-then-has-clause-some : goal.returns-then-has-clause-some
returns-then-has-clause-some c =
    subst (λ (chains : ChainsSeen). IfSome c.at.result (λ s. Stands chains c.args.text c.args.site c.args.seq c.args.before s.now))
    c.self.view_is (base_stands _ c.args.text c.args.site c.args.seq c.args.before c.at.result c.at.ensures.some)

pub returns-then-has-clause-none : goal.returns-then-has-clause-none
returns-then-has-clause-none c =
    subst (λ (chains : ChainsSeen). IfNone c.at.result (NoneStands chains c.args.text c.args.site c.args.seq c.args.before))
    c.self.view_is (no_base_stands _ c.args.text c.args.site c.args.seq c.args.before (c.has.ensures.0 c.if-has.true)
    c.at.result c.at.ensures.none)

pub returns-in_err-holder-clause-none : goal.returns-in_err-holder-clause-none
returns-in_err-holder-clause-none c =
    subst (λ (chains : ChainsSeen). IfNone c.from_residual.result (NoneStands chains c.args.text c.args.site c.args.seq c.args.before))
    c.self.view_is (nobody_stands _ c.args.text c.args.site c.args.seq c.args.before
    (λ has. false≢true (sym c.if-has.false ∙ c.has.ensures.1 has))
    (subst (λ (chains : ChainsSeen). NobodyHolds chains c.args.site) (sym c.self.view_is) c.in_err-holder.ensures.none)
    c.from_residual.result)

pub returns-clause-some : goal.returns-clause-some
returns-clause-some c =
    subst (λ (chains : ChainsSeen). IfSome c.least.result (λ s. Stands chains c.args.text c.args.site c.args.seq c.args.before s.now))
    c.self.view_is (holder_stands _ c.args.text c.args.site c.args.seq c.args.before
    (λ has. false≢true (sym c.if-has.false ∙ c.has.ensures.1 has)) c.in_ok-holder.field-0
    (subst (λ (chains : ChainsSeen). HoldsNumber chains c.args.site c.in_ok-holder.field-0) (sym c.self.view_is)
    c.in_ok-holder.ensures.some) c.least.result c.least.ensures.some)

pub returns-clause-none : goal.returns-clause-none
returns-clause-none c =
    subst (λ (chains : ChainsSeen). IfNone c.least.result (NoneStands chains c.args.text c.args.site c.args.seq c.args.before))
    c.self.view_is (no_holder_stands _ c.args.text c.args.site c.args.seq c.args.before
    (λ has. false≢true (sym c.if-has.false ∙ c.has.ensures.1 has)) c.in_ok-holder.field-0
    (subst (λ (chains : ChainsSeen). HoldsNumber chains c.args.site c.in_ok-holder.field-0) (sym c.self.view_is)
    c.in_ok-holder.ensures.some) c.least.result c.least.ensures.none)
