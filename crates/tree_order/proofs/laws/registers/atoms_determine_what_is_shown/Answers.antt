use Rattle.tree_order.proofs.RegisterLists.{shows_atoms}
use Rattle.tree_order.proofs.laws.registers.atoms_determine_what_is_shown.Goals as goal

pub returns : goal.returns
returns c = shows_atoms
