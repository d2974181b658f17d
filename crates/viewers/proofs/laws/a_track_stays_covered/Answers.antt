use Rattle.viewers.proofs.Others.{stays_covered}
use Rattle.viewers.proofs.laws.a_track_stays_covered.Goals as goal

pub returns : goal.returns
returns c = stays_covered
