use Rattle.tree_order.proofs.Runs.{runs_stay}
use Rattle.tree_order.proofs.laws.runs_stay_together.Goals as goal

pub returns : goal.returns
returns c = runs_stay
