use Rattle.tree_order.proofs.RegisterLists.{offers_its_values}
use Rattle.tree_order.proofs.laws.registers.registers_are_offered.Goals as goal

pub returns : goal.returns
returns c = offers_its_values
