use Rattle.line_drawing.proofs.Stands.{stands_between}
use Rattle.line_drawing.proofs.laws.lines_stand_between_ends.Goals as goal

pub returns : goal.returns
returns c = stands_between
