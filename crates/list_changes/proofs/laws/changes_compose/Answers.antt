use Rattle.list_changes.specs.Laws.{passing}
use Rattle.list_changes.proofs.Leading.{composed}
use Rattle.list_changes.proofs.laws.changes_compose.Goals as goal

pub returns : goal.returns
returns c = λ alike. composed (passing alike)
