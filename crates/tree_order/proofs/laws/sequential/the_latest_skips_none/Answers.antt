use Rattle.tree_order.proofs.Latest.{latest_skips_none}
use Rattle.tree_order.proofs.laws.sequential.the_latest_skips_none.Goals as goal

pub returns : goal.returns
returns c = latest_skips_none
