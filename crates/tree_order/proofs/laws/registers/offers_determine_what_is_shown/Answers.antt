use Rattle.tree_order.proofs.RegisterLists.{shows_by_offers}
use Rattle.tree_order.proofs.laws.registers.offers_determine_what_is_shown.Goals as goal

pub returns : goal.returns
returns c = shows_by_offers
