use Rattle.note_convergence.proofs.Taken.{taken}
use Rattle.note_convergence.proofs.replicas.what_counts_is_taken_in.Goals as goal

pub returns : goal.returns
returns c =
    taken c.lemma_what_counts_is_good.ensures c.lemma_what_is_kept_is_closed.ensures c.closure_is_the_greatest_good_part.ensures
