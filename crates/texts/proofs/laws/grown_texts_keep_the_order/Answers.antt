use Rattle.texts.proofs.Chars.{grown_keeps_the_order}
use Rattle.texts.proofs.laws.grown_texts_keep_the_order.Goals as goal

pub returns : goal.returns
returns c = grown_keeps_the_order
