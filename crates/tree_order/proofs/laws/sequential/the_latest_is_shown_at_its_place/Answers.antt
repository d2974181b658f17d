use Rattle.tree_order.proofs.ShownLatest.{shown_at_place}
use Rattle.tree_order.proofs.laws.sequential.the_latest_is_shown_at_its_place.Goals as goal

pub returns : goal.returns
returns c = shown_at_place
