use Rattle.set_laws.proofs.SameSets.{show_sets}
use Rattle.set_laws.proofs.unions.unions_show_sets.Goals as goal

pub returns : goal.returns
returns c = show_sets c.lemma_only_the_set_counts.ensures
