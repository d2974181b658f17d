use Rattle.set_laws.proofs.Covered.{same_by_fronts}
use Rattle.set_laws.proofs.unions.equal_fronts_have_equal_sets.Goals as goal

pub returns : goal.returns
returns c = same_by_fronts
