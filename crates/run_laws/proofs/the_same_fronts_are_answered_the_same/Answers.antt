use Rattle.std.specs.Prelude.{◌++◌, length}
use Rattle.machine.specs.declared.asked.Query.TheVariants.{Front}
use Rattle.machine.specs.Printing.{waiting_line}
use Rattle.run_laws.proofs.Reaching.{answered, after_sound, query_replied}
use Rattle.run_laws.proofs.the_same_fronts_are_answered_the_same.Goals as goal

pub returns : goal.returns
returns c = λ start start' i j text text' s s' t u lines few few' at_t at_u identified said said'.
    let sound = after_sound c.lemma_each_trace_is_reached.ensures c.lemma_what_a_run_reaches_is_sound.ensures start s at_t.after in
    let sound' = after_sound c.lemma_each_trace_is_reached.ensures c.lemma_what_a_run_reaches_is_sound.ensures start' s' at_u.after in
    let numbered = c.lemma_what_is_reached_is_numbered.ensures start.first start.count start.width start.height start.files s i text t
    few (c.lemma_each_trace_is_reached.ensures start s at_t.after) at_t.there in
    let numbered' = c.lemma_what_is_reached_is_numbered.ensures start'.first start'.count start'.width start'.height start'.files s' j
    text' u few' (c.lemma_each_trace_is_reached.ensures start' s' at_u.after) at_u.there in
    let fronts = c.lemma_front_lines_determine_the_fronts.ensures t u lines numbered numbered'
    (query_replied s i text t Front (lines ++ waiting_line (length t.waiting_room)) at_t.there said)
    (query_replied s' j text' u Front (lines ++ waiting_line (length u.waiting_room)) at_u.there said') in
    answered s s' i j text text' t u at_t.there at_u.there
    (c.lemma_the_same_fronts_print_the_same.ensures t u (sound.texts i text t at_t.there) (sound'.texts j text' u at_u.there) identified
    fronts)
