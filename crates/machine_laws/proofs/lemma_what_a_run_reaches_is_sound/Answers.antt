use Rattle.machine_laws.proofs.ReachedRuns.{reached_sound}
use Rattle.machine_laws.proofs.lemma_what_a_run_reaches_is_sound.Goals as goal

pub returns : goal.returns
returns c =
    reached_sound c.lemma_own_edits_are_plain.ensures c.lemma_nothing_is_good.ensures.good c.lemma_nothing_is_good.ensures.identified
    c.lemma_one_writer_goes_after_causes.ensures
