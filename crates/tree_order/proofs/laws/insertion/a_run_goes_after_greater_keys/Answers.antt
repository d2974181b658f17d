use Rattle.tree_order.proofs.AtomsWithRun.{after_greater_keys}
use Rattle.tree_order.proofs.laws.insertion.a_run_goes_after_greater_keys.Goals as goal

pub returns : goal.returns
returns c = after_greater_keys
