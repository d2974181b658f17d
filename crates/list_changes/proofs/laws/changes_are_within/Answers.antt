use Rattle.list_changes.specs.Laws.{passing}
use Rattle.list_changes.proofs.Leading.{within}
use Rattle.list_changes.proofs.laws.changes_are_within.Goals as goal

pub returns : goal.returns
returns c = λ alike. within (passing alike)
