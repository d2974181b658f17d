use Rattle.texts.proofs.Pasts.{past_is_then}
use Rattle.texts.proofs.laws.lemma_the_past_is_the_text_of_then.Goals as goal

pub returns : goal.returns
returns c = past_is_then
