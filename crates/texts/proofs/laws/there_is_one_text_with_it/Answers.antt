use Rattle.texts.proofs.Chars.{one_text_with}
use Rattle.texts.proofs.laws.there_is_one_text_with_it.Goals as goal

pub returns : goal.returns
returns c = one_text_with
