use Rattle.std.proofs.Common.{◌<◌, ◌≤◌}
use Rattle.op_log.proofs.site_log.low_index.Given as goal

abbrev pub invariant-loop-slot : goal.invariant-loop-slot
invariant-loop-slot l = record {
  within : l.slot ≤ l.from;
  some : 0 < l.step;
}

abbrev pub decreases-loop-slot : goal.decreases-loop-slot
decreases-loop-slot l = l.slot
