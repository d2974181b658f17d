use Rattle.convergence.proofs.Alike.{kept_alike}
use Rattle.convergence.proofs.headline.lemma_kept_texts_are_alike.Goals as goal

pub returns : goal.returns
returns c =
    kept_alike c.lemma_what_is_kept_is_closed.ensures c.lemma_there_is_one_closure.ensures c.lemma_the_operations_determine_the_text.ensures
