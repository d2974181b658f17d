use Rattle.std.proofs.Common.{sym, ◌∙◌}
use Rattle.run_laws.proofs.Reaching.{after_sound, same_held, view_replied}
use Rattle.run_laws.proofs.the_same_texts_answer_the_same_views.Goals as goal

pub returns : goal.returns
returns c = λ start start' i j s s' d e w at at' same v a b said said'.
    let sound = after_sound c.lemma_each_trace_is_reached.ensures c.lemma_what_a_run_reaches_is_sound.ensures start s at.after in
    let sound' = after_sound c.lemma_each_trace_is_reached.ensures c.lemma_what_a_run_reaches_is_sound.ensures start' s' at'.after in
    view_replied s i d w v a at.there said
    ∙ c.lemma_the_same_texts_show_the_same_screen.ensures d e w
    (same_held s s' i j d e sound sound' at.there.texts at'.there.texts same) v
    ∙ sym (view_replied s' j e w v b at'.there said')
