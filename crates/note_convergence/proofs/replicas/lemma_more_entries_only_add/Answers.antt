use Rattle.note_convergence.proofs.Taken.{grown}
use Rattle.note_convergence.proofs.replicas.lemma_more_entries_only_add.Goals as goal

pub returns : goal.returns
returns c =
    grown c.more_entries_take_nothing_away.ensures c.grown_texts_keep_the_order.ensures
