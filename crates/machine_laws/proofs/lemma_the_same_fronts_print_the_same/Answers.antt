use Rattle.set_laws.proofs.Covered.{same_by_fronts}
use Rattle.machine_laws.proofs.ShownLines.{answers-alike}
use Rattle.machine_laws.proofs.lemma_the_same_fronts_print_the_same.Goals as goal

pub returns : goal.returns
returns c = λ t u is_t is_u identified fronts.
    answers-alike c.lemma_runs_are_maximal.ensures.only t u
    (c.lemma_the_fronts_determine_the_text.ensures t u is_t is_u identified fronts).shown (same_by_fronts t.operations u.operations is_t.good is_u.good identified fronts)
