use Rattle.std.proofs.Common.{sym}
use Rattle.op_log.proofs.one_delete.is_one_delete.Goals as goal

pub returns-in-None : goal.returns-in-None
returns-in-None c = (λ never. absurd cc, λ is. absurd (c.in-None.ensures.none c.args.one.now (sym is)))
