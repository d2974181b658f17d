use Rattle.set_laws.proofs.Covered.{union_good}
use Rattle.set_laws.proofs.unions.union_is_good.Goals as goal

pub returns : goal.returns
returns c = union_good
