use Rattle.convergence.proofs.Exchange.{they_meet}
use Rattle.convergence.proofs.meeting.they_meet.Goals as goal

pub returns : goal.returns
returns c = they_meet
