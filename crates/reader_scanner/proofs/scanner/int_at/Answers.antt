use Rattle.std.proofs.Common.{◌≡◌, ◌+◌, sym, ap, ◌∙◌, arith}
use Rattle.std.specs.List.{prefix_len}
use Rattle.reader_scanner.specs.Lexeme.{Lexeme}
use Rattle.reader_scanner.specs.ReaderState.{bytes_from}
use Rattle.reader_scanner.specs.Tokens.{is_hex_digit}
use Rattle.reader_scanner.proofs.Scanning.{hex_is, decimal_is, item_within}
use Rattle.reader_scanner.proofs.scanner.int_at.Goals as goal

pub overflow_add-result : goal.overflow_add-result
overflow_add-result g c =
    let items = g.S.Source.items c.args.source.now in
    omega (
      arith,
      c.stretch_end-end.ensures.fits,
      item_within items c.stretch_end-end.result c.byte_at.result
          c.byte_at.ensures (omega arith),
    )

pub returns-then-byte_at-eq72-clause-value : goal.returns-then-byte_at-eq72-clause-value
returns-then-byte_at-eq72-clause-value g c =
    let items = g.S.Source.items c.args.source.now in
    c.int_between.ensures ∙ sym (ap (λ (l : Lexeme). l.token) (hex_is c.args.negative items c.args.beg
    c.stretch_end-end.result c.byte_at.result c.stretch_end-end.ensures.end c.byte_at.ensures
    c.if-byte_at-eq72.true))

pub returns-then-byte_at-eq72-clause-end : goal.returns-then-byte_at-eq72-clause-end
returns-then-byte_at-eq72-clause-end g c =
    let items = g.S.Source.items c.args.source.now in
    let e : c.stretch_end-end.result ≡ c.args.beg + prefix_len is_hex_digit (bytes_from items c.args.beg) =
    c.stretch_end-end.ensures.end in
    omega (
      arith,
      e,
      ap (λ (l : Lexeme). l.len) (hex_is c.args.negative items c.args.beg
          c.stretch_end-end.result c.byte_at.result e c.byte_at.ensures c.if-byte_at-eq72.true),
    )

pub returns-clause-value : goal.returns-clause-value
returns-clause-value g c =
    let items = g.S.Source.items c.args.source.now in
    c.int_between-2.ensures ∙ sym (ap (λ (l : Lexeme). l.token) (decimal_is c.args.negative items c.args.beg
    c.stretch_end-end.result c.byte_at.result c.stretch_end-end.ensures.end c.byte_at.ensures
    c.if-byte_at-eq72.false))

pub returns-clause-end : goal.returns-clause-end
returns-clause-end g c =
    let items = g.S.Source.items c.args.source.now in
    let e : c.stretch_end-end.result ≡ c.args.beg + prefix_len is_hex_digit (bytes_from items c.args.beg) =
    c.stretch_end-end.ensures.end in
    omega (
      arith,
      e,
      ap (λ (l : Lexeme). l.len) (decimal_is c.args.negative items c.args.beg
          c.stretch_end-end.result c.byte_at.result e c.byte_at.ensures c.if-byte_at-eq72.false),
    )
