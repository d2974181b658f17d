use Rattle.std.proofs.Common.{◌≡◌, ◌-◌, ◌≤◌, ◌++◌, length}
use Rattle.line_drawing.specs.Rows.{blanks}
use Rattle.text_frames.proofs.rows.fill.Given as goal

abbrev pub invariant-loop-cells : goal.invariant-loop-cells
invariant-loop-cells l = record {
  filled : l.cells.items ++ blanks (l.width - length l.cells.items)
      ≡ l.initial.cells.items ++ blanks (l.width - length l.initial.cells.items);
  within : length l.cells.items ≤ l.width;
}

abbrev pub decreases-loop-cells : goal.decreases-loop-cells
decreases-loop-cells l = l.width - length l.cells.items
