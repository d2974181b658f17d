use Rattle.std.proofs.Common.{Contains}
use Rattle.op_log.proofs.Logged.{site_known}
use Rattle.op_log.proofs.log.Log.lemma_sites_are_known.Goals as goal

pub returns : goal.returns
returns c = rw (← c.self.view_is) (site_known c.self.invariant)
