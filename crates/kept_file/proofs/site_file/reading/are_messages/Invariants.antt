use Rattle.kept_file.proofs.Messages.{FoundSoFar}
use Rattle.kept_file.proofs.site_file.reading.are_messages.Given as goal

abbrev pub invariant-loop : goal.invariant-loop
invariant-loop l = FoundSoFar l.bytes l.counter l.rest
