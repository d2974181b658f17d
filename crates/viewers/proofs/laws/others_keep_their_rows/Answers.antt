use Rattle.viewers.proofs.Others.{closing_keeps, moving_keeps, opening_keeps}
use Rattle.viewers.proofs.laws.others_keep_their_rows.Goals as goal

pub returns : goal.returns
returns c = record { opening = opening_keeps; closing = closing_keeps; moving = moving_keeps }
