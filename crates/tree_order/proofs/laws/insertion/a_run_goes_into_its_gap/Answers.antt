use Rattle.tree_order.proofs.Gap.{into_gap}
use Rattle.tree_order.proofs.laws.insertion.a_run_goes_into_its_gap.Goals as goal

pub returns : goal.returns
returns c = into_gap
