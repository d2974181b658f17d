use Rattle.line_drawing.proofs.Lines.{begs_rise}
use Rattle.line_drawing.proofs.laws.begins_rise.Goals as goal

pub returns : goal.returns
returns c = begs_rise
