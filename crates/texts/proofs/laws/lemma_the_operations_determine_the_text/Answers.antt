use Rattle.texts.proofs.Chars.{operations_tell}
use Rattle.texts.proofs.laws.lemma_the_operations_determine_the_text.Goals as goal

pub returns : goal.returns
returns c = operations_tell
