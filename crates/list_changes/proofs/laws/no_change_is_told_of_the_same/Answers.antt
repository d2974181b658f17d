use Rattle.list_changes.specs.Laws.{passing}
use Rattle.list_changes.proofs.Leading.{lead-back-by-none}
use Rattle.list_changes.proofs.laws.no_change_is_told_of_the_same.Goals as goal

pub returns : goal.returns
returns c = λ alike. lead-back-by-none (passing alike)
