use Rattle.set_laws.proofs.Refusals.{refusals_last}
use Rattle.set_laws.proofs.growing.refusals_last.Goals as goal

pub returns : goal.returns
returns c = λ ops more op good good' known within new.
    refusals_last ops more op good good' known within new
