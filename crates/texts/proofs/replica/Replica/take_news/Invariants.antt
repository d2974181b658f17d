use Rattle.texts.proofs.Merging.{IsTakenTo}
use Rattle.texts.proofs.replica.Replica.take_news.Given as goal

abbrev pub invariant-loop-place : goal.invariant-loop-place
invariant-loop-place l = IsTakenTo l.fn.self l.fn.other l.place l.done l.self
