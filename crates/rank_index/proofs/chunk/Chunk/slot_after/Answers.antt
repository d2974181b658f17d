use Rattle.std.proofs.Common.{sym, ◌∙◌}
use Rattle.rank_index.proofs.ChunkSlot.{last_later}
use Rattle.rank_index.proofs.chunk.Chunk.slot_after.Goals as goal

pub returns-in-Some-slot_of-clause-last : goal.returns-in-Some-slot_of-clause-last
returns-in-Some-slot_of-clause-last c =
    last_later c.args.self.now.members c.in-Some.tag c.in-Some-slot_of.slot c.in-Some-slot_of.ensures.slot
    ∙ sym c.in-Some.is
