use Rattle.set_laws.proofs.Preceding.{causes_before}
use Rattle.set_laws.proofs.unions.causes_stand_before.Goals as goal

pub returns : goal.returns
returns c = causes_before
