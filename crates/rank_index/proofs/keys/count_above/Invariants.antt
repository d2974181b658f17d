use Rattle.std.proofs.Common.{◌+◌, ◌≤◌, take}
use Rattle.rank_index.specs.Keyed.{AreAbove}
use Rattle.rank_index.proofs.keys.count_above.Given as goal

abbrev pub invariant-loop-slot : goal.invariant-loop-slot
invariant-loop-slot l = record {
  above : AreAbove l.keys l.key (take l.slot l.members);
  few : l.peeks ≤ l.initial.peeks + l.slot;
}
