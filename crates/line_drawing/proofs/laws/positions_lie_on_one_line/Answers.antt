use Rattle.line_drawing.proofs.Stands.{lies_on_one}
use Rattle.line_drawing.proofs.laws.positions_lie_on_one_line.Goals as goal

pub returns : goal.returns
returns c = lies_on_one
