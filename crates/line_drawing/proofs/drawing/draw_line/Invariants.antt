use Rattle.std.proofs.Common.{◌≡◌, ℕ, ◌<◌, length, get_or}
use Rattle.line_drawing.specs.Rows.{cells_of}
use Rattle.line_drawing.proofs.drawing.draw_line.Given as goal

abbrev pub invariant-loop-col : goal.invariant-loop-col
invariant-loop-col l = (k : ℕ) → k < l.col → get_or l.cells k 0 ≡ get_or (cells_of (length l.cells) l.line) k 0
