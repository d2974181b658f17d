use Rattle.set_laws.proofs.Freed.{ready_freed}
use Rattle.set_laws.proofs.closures.ready_is_freed.Goals as goal

pub returns : goal.returns
returns c = ready_freed
