use Rattle.text_chunks.proofs.Messages.{chunks_hand_in_the_messages}
use Rattle.text_chunks.proofs.laws.lemma_chunks_hand_in_the_messages.Goals as goal

pub returns : goal.returns
returns c =
    chunks_hand_in_the_messages c.lemma_one_chunk.ensures c.lemma_chunks_tell.ensures.told
    c.lemma_chunks_tell.ensures.beyond
