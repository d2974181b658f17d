use Rattle.machine_laws.proofs.OneReply.{one_reply}
use Rattle.machine_laws.proofs.each_event_has_one_reply.Goals as goal

pub returns : goal.returns
returns c =
    one_reply c.lemma_edits_end_one_way.ensures c.lemma_takings_end_one_way.ensures c.lemma_drainings_end_one_way.ensures
    c.lemma_merges_end_one_way.ensures c.lemma_runs_are_maximal.ensures.only c.lemma_one_text.ensures.text c.lemma_one_kept.ensures
    c.lemma_one_chunk.ensures
