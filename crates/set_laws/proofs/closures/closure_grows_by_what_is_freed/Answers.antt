use Rattle.set_laws.proofs.Closing.{grows_by_freed}
use Rattle.set_laws.proofs.closures.closure_grows_by_what_is_freed.Goals as goal

pub returns : goal.returns
returns c = grows_by_freed
