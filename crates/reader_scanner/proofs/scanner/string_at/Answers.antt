use Rattle.std.proofs.Common.{◌≡◌, ◌≤◌, ◌+◌, length, sym, ap, ◌∙◌, arith}
use Rattle.std.specs.List.{prefix_len}
use Rattle.reader_scanner.specs.declared.token.TokenValue.TheVariants as value
use Rattle.reader_scanner.specs.Lexeme.{Lexeme}
use Rattle.reader_scanner.specs.ReaderState.{bytes_from, bytes_between}
use Rattle.reader_scanner.specs.Tokens.{is_string_byte, if_short}
use Rattle.reader_scanner.proofs.Scanning.{short_is, long_is, string_is, open_is, item_within}
use Rattle.reader_scanner.proofs.Stretches.{stretch_within}
use Rattle.reader_scanner.proofs.scanner.string_at.Goals as goal
use Rattle.reader_scanner.proofs.scanner.string_at.Goals.{then-end-beg, else-end-beg}

pub returns-then-byte_at-ne34-clause-value : goal.returns-then-byte_at-ne34-clause-value
returns-then-byte_at-ne34-clause-value g c =
    let items = g.S.Source.items c.args.source.now in
    sym (ap (λ (l : Lexeme). l.token) (open_is items c.args.beg c.stretch_end-end.result c.byte_at.result
    c.stretch_end-end.ensures.end c.byte_at.ensures c.if-byte_at-ne34.true))

pub returns-then-byte_at-ne34-clause-end : goal.returns-then-byte_at-ne34-clause-end
returns-then-byte_at-ne34-clause-end g c =
    let items = g.S.Source.items c.args.source.now in
    let e : c.stretch_end-end.result ≡ c.args.beg + prefix_len is_string_byte (bytes_from items c.args.beg) =
    c.stretch_end-end.ensures.end in
    omega (
      arith,
      e,
      ap (λ (l : Lexeme). l.len) (open_is items c.args.beg c.stretch_end-end.result
          c.byte_at.result e c.byte_at.ensures c.if-byte_at-ne34.true),
    )

pub overflow_add-result : goal.overflow_add-result
overflow_add-result g c =
    let items = g.S.Source.items c.args.source.now in
    omega (
      arith,
      c.stretch_end-end.ensures.fits,
      item_within items c.stretch_end-end.result c.byte_at.result
          c.byte_at.ensures (omega arith),
    )

pub returns-clause-value : goal.returns-clause-value
returns-clause-value g c =
    let items = g.S.Source.items c.args.source.now in
    let beg = c.args.beg in
    let end = c.stretch_end-end.result in
    let e : end ≡ beg + prefix_len is_string_byte (bytes_from items beg) = c.stretch_end-end.ensures.end in
    let le : beg ≤ end = omega (arith, e) in
    let inside : end ≤ length items = omega (arith, e, stretch_within is_string_byte items beg c.requires) in
    let token : c.if-end-beg.value ≡ if_short value.String (bytes_between items beg end) =
    elim c.if-end-beg.branch [
      | then-end-beg w ↦ w.value-is
          ∙ short_is value.String items beg end w.text_between.result le inside w.if-end-beg.true
          w.text_between.ensures
      | else-end-beg w ↦ w.value-is ∙ long_is value.String items beg end le inside w.if-end-beg.false
    ] in
    token ∙ sym (ap (λ (l : Lexeme). l.token) (string_is items beg end c.byte_at.result e c.byte_at.ensures
    c.if-byte_at-ne34.false))

pub returns-clause-end : goal.returns-clause-end
returns-clause-end g c =
    let items = g.S.Source.items c.args.source.now in
    let e : c.stretch_end-end.result ≡ c.args.beg + prefix_len is_string_byte (bytes_from items c.args.beg) =
    c.stretch_end-end.ensures.end in
    omega (
      arith,
      e,
      ap (λ (l : Lexeme). l.len) (string_is items c.args.beg c.stretch_end-end.result
          c.byte_at.result e c.byte_at.ensures c.if-byte_at-ne34.false),
    )
