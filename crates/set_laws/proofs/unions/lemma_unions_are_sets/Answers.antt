use Rattle.set_laws.proofs.SameSets.{are_sets}
use Rattle.set_laws.proofs.unions.lemma_unions_are_sets.Goals as goal

pub returns : goal.returns
returns c = are_sets
