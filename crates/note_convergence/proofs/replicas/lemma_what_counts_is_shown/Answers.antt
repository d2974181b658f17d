use Rattle.note_convergence.proofs.Taken.{shown}
use Rattle.note_convergence.proofs.replicas.lemma_what_counts_is_shown.Goals as goal

pub returns : goal.returns
returns c =
    shown c.the_entries_determine_the_admission.ensures c.lemma_a_text_shows_the_definition.ensures c.lemma_only_the_set_counts.ensures
