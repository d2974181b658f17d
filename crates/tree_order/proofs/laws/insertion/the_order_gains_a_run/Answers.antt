use Rattle.tree_order.proofs.GapExists.{gains_run}
use Rattle.tree_order.proofs.laws.insertion.the_order_gains_a_run.Goals as goal

pub returns : goal.returns
returns c = gains_run
