use Rattle.std.proofs.Common.{◌-◌, ◌+◌, ◌<◌, ◌≤◌}
use Rattle.tree_order.specs.Good.{file_before}
use Rattle.set_laws.specs.Fronts.{front_of}
use Rattle.note_admission.proofs.inserter.inserter.Given as goal

abbrev pub invariant-loop-from : goal.invariant-loop-from
invariant-loop-from l = record {
  first : 0 < l.from;
  order : l.from ≤ l.to;
  last : l.to ≤ front_of l.log.ops l.name.site;
  from : file_before l.log.ops l.name.site l.from ≤ l.name.off;
  to : l.name.off < file_before l.log.ops l.name.site (l.to + 1);
}

abbrev pub decreases-loop-from : goal.decreases-loop-from
decreases-loop-from l = l.to - l.from
