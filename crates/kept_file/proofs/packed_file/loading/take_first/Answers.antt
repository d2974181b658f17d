use Rattle.std.proofs.Common.{◌≡◌, Err, ap, subst, sym}
use Rattle.std.proofs.lemmas.Result.{err_from_is_err_and}
use Rattle.looks.specs.declared.refusal.Refusal.TheVariants.{BadFile}
use Rattle.operations.specs.Operation.{Operation}
use Rattle.set_laws.specs.Verdict.{ready}
use Rattle.packed.specs.Reading.{CanBeNext}
use Rattle.texts.specs.Taking.{IsJudged}
use Rattle.kept_file.proofs.packed_file.loading.take_first.Goals as goal

pub returns-in_err-take_ready-in-Ok-clause-refused : goal.returns-in_err-take_ready-in-Ok-clause-refused
returns-in_err-take_ready-in-Ok-clause-refused c = λ bad op rest first judged.
    let given = err_from_is_err_and c.from_residual.result c.from_residual.ensures.1 in
    let is : c.in_err-take_ready-in-Ok.field-0.0 ≡ BadFile = cc (bad, given.1, given.2) in
    let can : CanBeNext c.args.history.now c.text.result op =
    subst (λ n. CanBeNext c.args.history.now n op) (sym c.text.ensures) first.can in
    let same = c.in-Ok.ensures.only op rest can first.parts in
    c.in_err-take_ready-in-Ok.ensures.refused (ap Err is)
    (subst (λ (o : Operation). IsJudged c.args.replica.now o ready) (sym same.0) judged)

pub returns-in-Err-clause-refused : goal.returns-in-Err-clause-refused
returns-in-Err-clause-refused c = λ bad op rest first judged.
    let is : c.in-Err.why ≡ BadFile = cc in
    c.in-Err.ensures.bad (ap Err is) op rest
    (subst (λ n. CanBeNext c.args.history.now n op) (sym c.text.ensures) first.can) first.parts
