use Rattle.set_laws.proofs.Closing as closing
use Rattle.set_laws.proofs.closures.lemma_nothing_is_good.Goals as goal

pub returns-clause-good : goal.returns-clause-good
returns-clause-good c = closing.lemma_nothing_is_good

pub returns-clause-identified : goal.returns-clause-identified
returns-clause-identified c = closing.nothing_is_identified
