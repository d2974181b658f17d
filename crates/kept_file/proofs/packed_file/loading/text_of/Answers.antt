use Rattle.std.proofs.lemmas.Result.{err_from_is_err_and}
use Rattle.kept_file.proofs.packed_file.loading.text_of.Goals as goal

pub returns-in_err-take_all-clause-errors : goal.returns-in_err-take_all-clause-errors
returns-in_err-take_all-clause-errors c =
    let given =
    err_from_is_err_and c.from_residual-in_err-take_all.result c.from_residual-in_err-take_all.ensures.1 in
    rw (given.1, given.2) c.in_err-take_all.ensures.errors
