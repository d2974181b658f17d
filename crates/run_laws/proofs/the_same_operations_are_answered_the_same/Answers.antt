use Rattle.run_laws.proofs.Reaching.{answered, after_sound}
use Rattle.run_laws.proofs.the_same_operations_are_answered_the_same.Goals as goal

pub returns : goal.returns
returns c = λ start start' i j text text' s s' t u at_t at_u same.
    let sound = after_sound c.lemma_each_trace_is_reached.ensures c.lemma_what_a_run_reaches_is_sound.ensures start s at_t.after in
    let sound' = after_sound c.lemma_each_trace_is_reached.ensures c.lemma_what_a_run_reaches_is_sound.ensures start' s' at_u.after in
    answered s s' i j text text' t u at_t.there at_u.there
    (c.lemma_the_same_operations_print_the_same.ensures t u (sound.texts i text t at_t.there) (sound'.texts j text' u at_u.there)
    same)
