use Rattle.tree_order.proofs.ShownWithRun.{shown_gains_run}
use Rattle.tree_order.proofs.laws.insertion.what_is_shown_gains_a_run.Goals as goal

pub returns : goal.returns
returns c = shown_gains_run
