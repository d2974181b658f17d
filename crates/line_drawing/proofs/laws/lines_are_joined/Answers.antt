use Rattle.line_drawing.proofs.Lines.{joined}
use Rattle.line_drawing.proofs.laws.lines_are_joined.Goals as goal

pub returns : goal.returns
returns c = joined
