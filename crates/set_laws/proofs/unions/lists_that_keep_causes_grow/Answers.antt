use Rattle.set_laws.proofs.Preceding.{causes_kept_with_one}
use Rattle.set_laws.proofs.unions.lists_that_keep_causes_grow.Goals as goal

pub returns : goal.returns
returns c = causes_kept_with_one
