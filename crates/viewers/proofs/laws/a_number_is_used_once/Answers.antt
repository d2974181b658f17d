use Rattle.viewers.proofs.Others.{are_unused, opening_rises}
use Rattle.viewers.proofs.laws.a_number_is_used_once.Goals as goal

pub returns : goal.returns
returns g c = record { unused = are_unused; rises = opening_rises }
