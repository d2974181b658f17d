use Rattle.set_laws.proofs.Closing.{one_closure}
use Rattle.set_laws.proofs.closures.lemma_there_is_one_closure.Goals as goal

pub returns : goal.returns
returns c = one_closure
