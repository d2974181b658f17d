use Rattle.tree_order.proofs.OneWriter.{one_writer}
use Rattle.tree_order.proofs.laws.sequential.lemma_one_writer_goes_after_causes.Goals as goal

pub returns : goal.returns
returns c = one_writer
