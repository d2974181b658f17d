use Rattle.line_drawing.proofs.Lines.{own_line}
use Rattle.line_drawing.proofs.laws.a_row_is_of_its_own_line.Goals as goal

pub returns : goal.returns
returns c = own_line
