use Rattle.list_changes.specs.Laws.{passing}
use Rattle.list_changes.proofs.Leading.{quiet-keeps}
use Rattle.list_changes.proofs.laws.quiet_changes_keep.Goals as goal

pub returns : goal.returns
returns c = λ alike tells. quiet-keeps (passing alike) tells
