use Rattle.std.proofs.Common.{◌≡◌, Err, ap}
use Rattle.std.proofs.lemmas.Result.{err_from_is_err_and}
use Rattle.looks.specs.declared.refusal.Refusal.TheVariants.{Malformed}
use Rattle.vialshoal_c.proofs.note_exports.made.Goals as goal

pub returns-in_err-copied-clause-malformed : goal.returns-in_err-copied-clause-malformed
returns-in_err-copied-clause-malformed c = λ bad copied is.
    let given = err_from_is_err_and c.from_residual.result c.from_residual.ensures.1 in
    let why : c.in_err-copied.field-0.0 ≡ Malformed = cc (bad, given.1, given.2) in
    c.in_err-copied.ensures.malformed (ap Err why) copied is
