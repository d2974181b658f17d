use Rattle.convergence.proofs.Alike.{merges_alike}
use Rattle.convergence.proofs.headline.lemma_merges_are_alike_either_way.Goals as goal

pub returns : goal.returns
returns c =
    merges_alike c.lemma_merges_show_the_union.ensures c.lemma_unions_are_sets.ensures c.lemma_the_operations_determine_the_text.ensures
