use Rattle.packed.proofs.Told.{own_operations_tell}
use Rattle.packed.proofs.laws.lemma_own_operations_tell.Goals as goal

pub returns : goal.returns
returns c = own_operations_tell
