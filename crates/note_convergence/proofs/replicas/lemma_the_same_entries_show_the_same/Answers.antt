use Rattle.note_convergence.proofs.Taken.{alike}
use Rattle.note_convergence.proofs.replicas.lemma_the_same_entries_show_the_same.Goals as goal

pub returns : goal.returns
returns c =
    alike c.the_entries_determine_the_admission.ensures c.lemma_the_operations_determine_the_text.ensures
