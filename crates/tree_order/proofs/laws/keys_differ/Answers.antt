use Rattle.tree_order.proofs.Tree.{different_keys}
use Rattle.tree_order.proofs.laws.keys_differ.Goals as goal

pub returns : goal.returns
returns c = different_keys
