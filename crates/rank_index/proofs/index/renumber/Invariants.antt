use Rattle.rank_index.specs.Chunks.{AreSlotsTo}
use Rattle.rank_index.proofs.index.renumber.Given as goal

-- the slots of the chunks so far are told
abbrev pub invariant-loop-slot : goal.invariant-loop-slot
invariant-loop-slot l = AreSlotsTo l.slots l.chunks l.slot
