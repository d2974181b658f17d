use Rattle.line_drawing.proofs.Columns.{is_located}
use Rattle.line_drawing.proofs.laws.cells_are_located.Goals as goal

pub returns : goal.returns
returns c = is_located
