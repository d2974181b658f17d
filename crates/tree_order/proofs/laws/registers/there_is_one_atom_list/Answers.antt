use Rattle.tree_order.proofs.RegisterLists.{has_one_atoms}
use Rattle.tree_order.proofs.laws.registers.there_is_one_atom_list.Goals as goal

pub returns : goal.returns
returns c = has_one_atoms
