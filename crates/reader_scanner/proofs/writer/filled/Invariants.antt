use Rattle.std.proofs.Common.{◌≡◌, replicate}
use Rattle.reader_scanner.proofs.writer.filled.Given as goal

-- so many blanks
abbrev pub invariant-loop : goal.invariant-loop
invariant-loop l = l.bytes.items ≡ replicate l.counter 32
