use Rattle.std.proofs.Common.{length}
use Rattle.chunks.proofs.ReadAll.{SoFar}
use Rattle.chunks.proofs.reading.read_all.Given as goal

abbrev pub invariant-loop-rest : goal.invariant-loop-rest
invariant-loop-rest l = SoFar l.text l.bytes l.history l.operations.items l.rest

abbrev pub decreases-loop-rest : goal.decreases-loop-rest
decreases-loop-rest l = length l.rest
