use Rattle.convergence.proofs.Exchange.{since_taken_in}
use Rattle.convergence.proofs.meeting.since_is_taken_in.Goals as goal

pub returns : goal.returns
returns c = since_taken_in
