use Rattle.machine_laws.proofs.ShownLines.{answers-alike}
use Rattle.machine_laws.proofs.lemma_the_same_operations_print_the_same.Goals as goal

pub returns : goal.returns
returns c = λ t u is_t is_u same.
    answers-alike c.lemma_runs_are_maximal.ensures.only t u (c.lemma_the_operations_determine_the_text.ensures t u is_t is_u same).shown same
