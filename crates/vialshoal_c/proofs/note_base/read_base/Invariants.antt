use Rattle.std.proofs.Common.{length}
use Rattle.vialshoal_c.proofs.Bases.{IsReadSoFar}
use Rattle.vialshoal_c.proofs.note_base.read_base.Given as goal

abbrev pub invariant-loop-rest : goal.invariant-loop-rest
invariant-loop-rest l = IsReadSoFar l.base_key l.fn.bytes l.base.items l.last l.rest

abbrev pub decreases-loop-rest : goal.decreases-loop-rest
decreases-loop-rest l = length l.rest
