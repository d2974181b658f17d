use Rattle.convergence.proofs.Kept.{kept_draining}
use Rattle.convergence.proofs.handed_in.lemma_draining_keeps.Goals as goal

pub returns : goal.returns
returns c = λ t new drained dropped stopped all text keeps drains.
    kept_draining all text keeps drains
