use Rattle.std.proofs.Common.{◌≤◌, List, ap, refl, subst, ◌∙◌, arith}
use Rattle.std.proofs.lemmas.Bool.{false≢true}
use Rattle.operations.specs.Operation.{Operation}
use Rattle.set_laws.specs.Verdict.{HasVerdict, ready}
use Rattle.waiting_room.specs.Judged.{verdict_of}
use Rattle.texts.specs.Fronts.{front_in}
use Rattle.texts.specs.TextState.{TextState}
use Rattle.texts.proofs.Pasts.{other_verdict}
use Rattle.texts.proofs.replica.Replica.is_due.Goals as goal

pub returns-in-Ready : goal.returns-in-Ready
returns-in-Ready c =
    let op = c.args.op.now in
    let same = c.new.ensures ∙ c.log.ensures ∙ ap (λ (t : TextState). t.operations) c.self.view_is in
    let has = subst (λ (ops : List Operation). HasVerdict ops op ready) same c.in-Ready.ensures in
    let front = c.front_in.ensures ∙ ap (front_in c.args.fronts.now) c.site.ensures in
    let most : op.seq ≤ front_in c.args.fronts.now op.site = omega (arith, front, c.seq.ensures, c.if-seq-front_in.true) in
    (λ so. (most, has), λ due. refl)

pub returns-in_default : goal.returns-in_default
returns-in_default c =
    let op = c.args.op.now in
    let v = c.judge.result in
    let same = c.new.ensures ∙ c.log.ensures ∙ ap (λ (t : TextState). t.operations) c.self.view_is in
    let has = subst (λ (ops : List Operation). HasVerdict ops op (verdict_of v)) same c.judge.ensures in (
      λ so. absurd (false≢true so),
      λ due. absurd (other_verdict c.args.self.now.operations op v c.in_default.not-Ready has due.1),
    )
