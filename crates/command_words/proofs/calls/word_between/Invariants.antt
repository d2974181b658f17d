use Rattle.std.proofs.Common.{◌≡◌}
use Rattle.reader_scanner.specs.ReaderState.{bytes_between}
use Rattle.command_words.proofs.calls.word_between.Given as goal

-- the bytes so far
abbrev pub invariant-loop-pos : goal.invariant-loop-pos
invariant-loop-pos g l = l.word.items ≡ bytes_between (g.S.Source.items l.source) l.beg l.pos
