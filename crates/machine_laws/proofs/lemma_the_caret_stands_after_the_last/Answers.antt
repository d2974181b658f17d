use Rattle.machine_laws.proofs.AfterTheLast.{after_the_last}
use Rattle.machine_laws.proofs.lemma_the_caret_stands_after_the_last.Goals as goal

pub returns : goal.returns
returns c = after_the_last
