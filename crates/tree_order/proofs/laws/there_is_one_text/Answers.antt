use Rattle.tree_order.proofs.OneText.{shows_one_text}
use Rattle.tree_order.proofs.laws.there_is_one_text.Goals as goal

pub returns : goal.returns
returns c = shows_one_text
