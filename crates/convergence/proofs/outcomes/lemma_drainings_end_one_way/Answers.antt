use Rattle.convergence.proofs.OneWay.{drain_one_way}
use Rattle.convergence.proofs.outcomes.lemma_drainings_end_one_way.Goals as goal

pub returns : goal.returns
returns c = drain_one_way
