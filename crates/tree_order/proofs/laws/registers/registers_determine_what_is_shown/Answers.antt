use Rattle.tree_order.proofs.RegistersDetermine.{tell}
use Rattle.tree_order.proofs.laws.registers.registers_determine_what_is_shown.Goals as goal

pub returns : goal.returns
returns c = tell
