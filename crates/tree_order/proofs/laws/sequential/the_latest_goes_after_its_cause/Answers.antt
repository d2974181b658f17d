use Rattle.tree_order.proofs.Latest.{after_cause}
use Rattle.tree_order.proofs.laws.sequential.the_latest_goes_after_its_cause.Goals as goal

pub returns : goal.returns
returns c = after_cause
