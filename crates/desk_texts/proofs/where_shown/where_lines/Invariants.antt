use Rattle.std.proofs.Common.{◌≡◌, ◌+◌, ◌-◌, ◌≤◌, ◌++◌}
use Rattle.operations.specs.NameSet.{names_of}
use Rattle.texts.specs.TextState.{shown_of}
use Rattle.machine.specs.WhereShown.{shown_lines}
use Rattle.desk_texts.proofs.where_shown.where_lines.Given as goal

abbrev pub invariant-loop-done : goal.invariant-loop-done
invariant-loop-done l = record {
  few : l.done ≤ l.names.len;
  printed : l.lines.items ++ shown_lines (shown_of l.replica)
      (names_of (record { site = l.names.site; at = l.names.at + l.done; len = l.names.len - l.done }))
      ≡ shown_lines (shown_of l.replica) (names_of l.names);
}

abbrev pub decreases-loop-done : goal.decreases-loop-done
decreases-loop-done l = l.names.len - l.done
