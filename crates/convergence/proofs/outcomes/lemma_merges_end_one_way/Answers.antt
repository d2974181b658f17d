use Rattle.convergence.proofs.OneMerge.{merge_one_way}
use Rattle.convergence.proofs.outcomes.lemma_merges_end_one_way.Goals as goal

pub returns : goal.returns
returns c = merge_one_way
