use Rattle.reader_scanner.specs.ReaderState.{bytes_between}
use Rattle.reader_scanner.proofs.Numbers.{IsSizeSoFar}
use Rattle.reader_scanner.proofs.scanner.size_of.Given as goal

-- the size so far
abbrev pub invariant-loop-pos : goal.invariant-loop-pos
invariant-loop-pos g l = IsSizeSoFar l.radix (bytes_between (g.S.Source.items l.source) l.beg l.pos) l.size
