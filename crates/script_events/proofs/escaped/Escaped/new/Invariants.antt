use Rattle.std.proofs.Common.{length}
use Rattle.script_events.proofs.Spelling.{IsCounted}
use Rattle.script_events.proofs.escaped.Escaped.new.Given as goal

abbrev pub invariant-loop-first : goal.invariant-loop-first
invariant-loop-first l = IsCounted l.raw l.rest l.len

abbrev pub decreases-loop-first : goal.decreases-loop-first
decreases-loop-first l = length l.rest
