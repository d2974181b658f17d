use Rattle.tree_order.proofs.SameSet.{says_the_same}
use Rattle.tree_order.proofs.laws.lemma_only_the_set_counts.Goals as goal

pub returns : goal.returns
returns c = says_the_same
