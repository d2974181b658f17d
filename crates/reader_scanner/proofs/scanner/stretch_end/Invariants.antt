use Rattle.std.proofs.Common.{◌≡◌, ◌+◌}
use Rattle.std.specs.List.{prefix_len}
use Rattle.reader_scanner.specs.Lexeme.{has_byte}
use Rattle.reader_scanner.specs.ReaderState.{bytes_from}
use Rattle.reader_scanner.proofs.scanner.stretch_end.Given as goal

-- the stretch goes on from here as far as from its begin
abbrev pub invariant-loop-pos : goal.invariant-loop-pos
invariant-loop-pos g l =
    l.pos + prefix_len (has_byte l.class) (bytes_from (g.S.Source.items l.source) l.pos)
    ≡ l.from + prefix_len (has_byte l.class) (bytes_from (g.S.Source.items l.source) l.from)
