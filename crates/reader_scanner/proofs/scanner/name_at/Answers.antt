use Rattle.std.proofs.Common.{◌≡◌, ◌≤◌, ◌+◌, length, sym, ap, ◌∙◌, arith}
use Rattle.std.specs.List.{prefix_len}
use Rattle.reader_scanner.specs.declared.token.TokenValue.TheVariants as value
use Rattle.reader_scanner.specs.Lexeme.{Lexeme}
use Rattle.reader_scanner.specs.ReaderState.{bytes_from, bytes_between}
use Rattle.reader_scanner.specs.Tokens.{is_name_byte, if_short}
use Rattle.reader_scanner.proofs.Scanning.{short_is, long_is, name_is}
use Rattle.reader_scanner.proofs.Stretches.{stretch_within}
use Rattle.reader_scanner.proofs.scanner.name_at.Goals as goal
use Rattle.reader_scanner.proofs.scanner.name_at.Goals.{then-end-beg, else-end-beg}

pub text_between-requires-clause-inside : goal.text_between-requires-clause-inside
text_between-requires-clause-inside g c =
    let items = g.S.Source.items c.args.source.now in
    let e : c.stretch_end-end.result ≡ c.args.beg + prefix_len is_name_byte (bytes_from items c.args.beg) =
    c.stretch_end-end.ensures.end in
    omega (arith, e, stretch_within is_name_byte items c.args.beg c.requires)

pub returns-clause-value : goal.returns-clause-value
returns-clause-value g c =
    let items = g.S.Source.items c.args.source.now in
    let beg = c.args.beg in
    let end = c.stretch_end-end.result in
    let e : end ≡ beg + prefix_len is_name_byte (bytes_from items beg) = c.stretch_end-end.ensures.end in
    let le : beg ≤ end = omega (arith, e) in
    let inside : end ≤ length items = omega (arith, e, stretch_within is_name_byte items beg c.requires) in
    let token : c.if-end-beg.value ≡ if_short value.Name (bytes_between items beg end) =
    elim c.if-end-beg.branch [
      | then-end-beg w ↦ w.value-is
          ∙ short_is value.Name items beg end w.text_between.result le inside w.if-end-beg.true
          w.text_between.ensures
      | else-end-beg w ↦ w.value-is ∙ long_is value.Name items beg end le inside w.if-end-beg.false
    ] in
    token ∙ sym (ap (λ (l : Lexeme). l.token) (name_is items beg end e))

pub returns-clause-end : goal.returns-clause-end
returns-clause-end g c =
    let items = g.S.Source.items c.args.source.now in
    let e : c.stretch_end-end.result ≡ c.args.beg + prefix_len is_name_byte (bytes_from items c.args.beg) =
    c.stretch_end-end.ensures.end in
    omega (arith, e, ap (λ (l : Lexeme). l.len) (name_is items c.args.beg c.stretch_end-end.result e))
