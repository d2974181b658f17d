use Rattle.tree_order.proofs.PlaceOfShown.{plain_edit}
use Rattle.tree_order.proofs.laws.sequential.the_latest_is_a_plain_edit.Goals as goal

pub returns : goal.returns
returns c = plain_edit
