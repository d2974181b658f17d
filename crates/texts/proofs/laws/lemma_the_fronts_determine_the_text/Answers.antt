use Rattle.texts.proofs.Chars.{fronts_tell}
use Rattle.texts.proofs.laws.lemma_the_fronts_determine_the_text.Goals as goal

pub returns : goal.returns
returns c = fronts_tell
