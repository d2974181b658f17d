use Rattle.line_drawing.proofs.Lines.{one_more}
use Rattle.line_drawing.proofs.laws.one_line_more.Goals as goal

pub returns : goal.returns
returns c = one_more
