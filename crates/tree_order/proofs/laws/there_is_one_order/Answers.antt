use Rattle.tree_order.proofs.Before.{has_order}
use Rattle.tree_order.proofs.laws.there_is_one_order.Goals as goal

pub returns : goal.returns
returns c = has_order
