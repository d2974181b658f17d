use Rattle.convergence.proofs.Fates.{take_one_way}
use Rattle.convergence.proofs.outcomes.lemma_takings_end_one_way.Goals as goal

pub returns : goal.returns
returns c = take_one_way
