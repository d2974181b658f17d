use Rattle.chunks.proofs.OneChunk.{one_chunk}
use Rattle.chunks.proofs.laws.lemma_one_chunk.Goals as goal

pub returns : goal.returns
returns c = one_chunk
