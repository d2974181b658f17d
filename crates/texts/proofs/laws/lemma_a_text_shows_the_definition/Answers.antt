use Rattle.texts.proofs.Chars.{shows_the_definition}
use Rattle.texts.proofs.laws.lemma_a_text_shows_the_definition.Goals as goal

pub returns : goal.returns
returns c = shows_the_definition
