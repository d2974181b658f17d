use Rattle.std.proofs.Common.{◌≡◌, Err, ap, subst, sym}
use Rattle.looks.specs.declared.refusal.Refusal.TheVariants.{BadFile}
use Rattle.set_laws.specs.Verdict.{ready}
use Rattle.texts.specs.Taking.{IsJudged}
use Rattle.texts.specs.TextState.{TextState}
use Rattle.kept_file.proofs.packed_file.loading.take_letters_or_first.Goals as goal

pub returns-in-Err-take_first-clause-refused : goal.returns-in-Err-take_first-clause-refused
returns-in-Err-take_first-clause-refused c = λ bad op rest first judged.
    let is : c.in-Err-take_first.why ≡ BadFile = cc in
    let none = rw c.in-Ok-None.field-0-is at c.in-Ok-None.ensures.none in
    c.in-Err-take_first.ensures.refused (ap Err is) op rest (rw (none.0, none.1) first)
    (subst (λ (t : TextState). IsJudged t op ready) (sym none.0) judged)
