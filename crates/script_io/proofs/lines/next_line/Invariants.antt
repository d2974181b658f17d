use Rattle.std.proofs.Common.{◌≡◌, ◌≤◌, ◌-◌, length}
use Rattle.std.specs.Prelude.{vec_capacity}
use Rattle.std.specs.Io.KnownBytes.{Consumes}
use Rattle.script_io.specs.Lines.{IsRaw}
use Rattle.script_io.specs.declared.lines.TheConstants.{MAX_LINE}
use Rattle.script_io.proofs.lines.next_line.Given as goal

abbrev pub invariant-loop-line : goal.invariant-loop-line
invariant-loop-line g l = record {
  consumed : Consumes l.fn.input.left l.input.left l.line.items;
  raw : IsRaw l.line.items;
  whole : l.input.failed ≡ l.fn.input.failed;
  room : MAX_LINE ≤ vec_capacity l.line;
}

abbrev pub decreases-loop-line : goal.decreases-loop-line
decreases-loop-line g l = MAX_LINE - length l.line.items
