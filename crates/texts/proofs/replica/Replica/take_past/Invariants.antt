use Rattle.texts.proofs.Pasts.{IsPastTo}
use Rattle.texts.proofs.replica.Replica.take_past.Given as goal

abbrev pub invariant-loop-place : goal.invariant-loop-place
invariant-loop-place l = IsPastTo l.fn.other l.fn.fronts l.place l.self
