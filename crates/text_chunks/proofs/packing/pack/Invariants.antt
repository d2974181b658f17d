use Rattle.text_chunks.proofs.Packed.{IsPackedTo}
use Rattle.text_chunks.proofs.packing.pack.Given as goal

-- the operations so far
abbrev pub invariant-loop-place : goal.invariant-loop-place
invariant-loop-place l = IsPackedTo l.fronts l.replica.operations l.replica.text l.place l.cutter
