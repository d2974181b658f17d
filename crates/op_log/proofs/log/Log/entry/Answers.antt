use Rattle.std.proofs.Common.{refl}
use Rattle.op_log.proofs.Logged.{entry_tells, told_here, told_value}
use Rattle.op_log.proofs.log.Log.entry.Goals as goal

pub returns-clause-here : goal.returns-clause-here
returns-clause-here c =
    rw (← c.self.view_is)
    (told_here c.self.inside.ops.items c.args.site c.args.seq c.entry.result
    (entry_tells c.self.invariant c.args.site c.args.seq refl c.entry.ensures.none c.entry.ensures.value))

pub returns-clause-value : goal.returns-clause-value
returns-clause-value c =
    rw (← c.self.view_is)
    (told_value c.self.inside.ops.items c.args.site c.args.seq c.entry.result
    (entry_tells c.self.invariant c.args.site c.args.seq refl c.entry.ensures.none c.entry.ensures.value))
