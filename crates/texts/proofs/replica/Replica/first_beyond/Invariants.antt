use Rattle.texts.proofs.Beyond.{BeginsSoFar}
use Rattle.texts.proofs.replica.Replica.first_beyond.Given as goal

-- of the sites so far
abbrev pub invariant-loop-at : goal.invariant-loop-at
invariant-loop-at l = BeginsSoFar l.fronts l.log.ops l.log.rooms l.at l.first
