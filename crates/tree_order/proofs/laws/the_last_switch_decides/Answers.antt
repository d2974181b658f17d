use Rattle.tree_order.proofs.Visibility.{last_switch_decides}
use Rattle.tree_order.proofs.laws.the_last_switch_decides.Goals as goal

pub returns : goal.returns
returns c = last_switch_decides
