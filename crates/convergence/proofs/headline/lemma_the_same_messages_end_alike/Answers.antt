use Rattle.convergence.proofs.Messages.{messages_end_alike}
use Rattle.convergence.proofs.headline.lemma_the_same_messages_end_alike.Goals as goal

pub returns : goal.returns
returns c =
    messages_end_alike c.lemma_taking_keeps.ensures c.lemma_what_waits_stays_waiting.ensures
    c.lemma_nothing_is_kept.ensures c.lemma_nothing_is_good.ensures.good c.lemma_nothing_is_good.ensures.identified
    c.lemma_kept_texts_are_alike.ensures
