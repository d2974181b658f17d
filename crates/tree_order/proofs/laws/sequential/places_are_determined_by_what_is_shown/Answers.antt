use Rattle.tree_order.proofs.PlaceOfShown.{place_is_after}
use Rattle.tree_order.proofs.laws.sequential.places_are_determined_by_what_is_shown.Goals as goal

pub returns : goal.returns
returns c = place_is_after
