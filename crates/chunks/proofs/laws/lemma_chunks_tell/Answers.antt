use Rattle.chunks.proofs.Divided.{chunks_tell}
use Rattle.chunks.proofs.Histories.{what_is_beyond_can_come}
use Rattle.chunks.proofs.laws.lemma_chunks_tell.Goals as goal

pub returns-clause-told : goal.returns-clause-told
returns-clause-told c = chunks_tell

pub returns-clause-beyond : goal.returns-clause-beyond
returns-clause-beyond c = what_is_beyond_can_come
