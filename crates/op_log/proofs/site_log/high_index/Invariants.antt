use Rattle.std.proofs.Common.{◌-◌, ◌<◌, ◌≤◌}
use Rattle.op_log.proofs.site_log.high_index.Given as goal

abbrev pub invariant-loop-slot : goal.invariant-loop-slot
invariant-loop-slot l = record {
  after : l.from ≤ l.slot;
  within : l.slot ≤ l.last;
  some : 0 < l.step;
}

abbrev pub decreases-loop-slot : goal.decreases-loop-slot
decreases-loop-slot l = l.last - l.slot
