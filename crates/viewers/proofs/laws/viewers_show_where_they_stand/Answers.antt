use Rattle.viewers.proofs.Others.{show_where_they_stand}
use Rattle.viewers.proofs.laws.viewers_show_where_they_stand.Goals as goal

pub returns : goal.returns
returns g c = show_where_they_stand
