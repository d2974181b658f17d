use Rattle.convergence.proofs.Reopened.{kept_by_reopening}
use Rattle.convergence.proofs.handed_in.reopening_keeps.Goals as goal

pub returns : goal.returns
returns c = kept_by_reopening
