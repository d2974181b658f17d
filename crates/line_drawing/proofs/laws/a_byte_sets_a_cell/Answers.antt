use Rattle.line_drawing.proofs.Cells.{set_cell}
use Rattle.line_drawing.proofs.laws.a_byte_sets_a_cell.Goals as goal

pub returns : goal.returns
returns c = set_cell
