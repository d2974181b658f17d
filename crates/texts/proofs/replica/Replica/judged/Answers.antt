use Rattle.std.proofs.Common.{List, ap, subst, ◌∙◌}
use Rattle.operations.specs.Operation.{Operation}
use Rattle.set_laws.specs.Verdict.{HasVerdict, wait, misfit, low_stamp, ready}
use Rattle.texts.specs.TextState.{TextState}
use Rattle.texts.proofs.replica.Replica.judged.Goals as goal

pub returns-in-Wait : goal.returns-in-Wait
returns-in-Wait c =
    let op = c.args.op.now in
    let same = c.new.ensures ∙ c.log.ensures ∙ ap (λ (t : TextState). t.operations) c.self.view_is in
    let has = subst (λ (ops : List Operation). HasVerdict ops op wait) same c.in-Wait.ensures in
    (c.requires.unheard, (c.requires.text, c.requires.new, has))

pub returns-in-Misfit : goal.returns-in-Misfit
returns-in-Misfit c =
    let op = c.args.op.now in
    let same = c.new.ensures ∙ c.log.ensures ∙ ap (λ (t : TextState). t.operations) c.self.view_is in
    let has = subst (λ (ops : List Operation). HasVerdict ops op misfit) same c.in-Misfit.ensures in
    (c.requires.unheard, (c.requires.text, c.requires.new, has))

pub returns-in-LowStamp : goal.returns-in-LowStamp
returns-in-LowStamp c =
    let op = c.args.op.now in
    let same = c.new.ensures ∙ c.log.ensures ∙ ap (λ (t : TextState). t.operations) c.self.view_is in
    let has = subst (λ (ops : List Operation). HasVerdict ops op low_stamp) same c.in-LowStamp.ensures in
    (c.requires.unheard, (c.requires.text, c.requires.new, has))

pub returns-in-Ready : goal.returns-in-Ready
returns-in-Ready c =
    let op = c.args.op.now in
    let same = c.new.ensures ∙ c.log.ensures ∙ ap (λ (t : TextState). t.operations) c.self.view_is in
    let has = subst (λ (ops : List Operation). HasVerdict ops op ready) same c.in-Ready.ensures in
    (c.requires.unheard, (c.requires.text, c.requires.new, has))
