use Rattle.set_laws.proofs.Closing.{closed_where_none}
use Rattle.set_laws.proofs.closures.closed_where_none_is_ready.Goals as goal

pub returns : goal.returns
returns c = λ all set known within good. closed_where_none all known set within good
