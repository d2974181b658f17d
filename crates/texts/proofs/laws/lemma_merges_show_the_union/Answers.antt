use Rattle.texts.proofs.News.{shows_the_union}
use Rattle.texts.proofs.laws.lemma_merges_show_the_union.Goals as goal

pub returns : goal.returns
returns c = shows_the_union
