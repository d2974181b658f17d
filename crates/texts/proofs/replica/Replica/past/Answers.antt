use Rattle.std.proofs.lemmas.Result.{err_from_is_err_and}
use Rattle.texts.proofs.replica.Replica.past.Goals as goal

pub returns-in_err-take_past-clause-errors : goal.returns-in_err-take_past-clause-errors
returns-in_err-take_past-clause-errors c =
    let p = err_from_is_err_and c.from_residual-in_err-take_past.result c.from_residual-in_err-take_past.ensures.1 in
    rw (p.1, p.2) c.in_err-take_past.ensures.errors
