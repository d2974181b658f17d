use Rattle.text_file.proofs.Heads.{SoFar}
use Rattle.text_file.proofs.loading.heads_at.Given as goal

abbrev pub invariant-loop : goal.invariant-loop
invariant-loop l = SoFar l.bytes l.counter l.left l.last l.rest
