use Rattle.set_laws.proofs.ByVerdict.{grows_by_verdict}
use Rattle.set_laws.proofs.growing.good_sets_grow_by_verdict.Goals as goal

pub returns : goal.returns
returns c = grows_by_verdict
