use Rattle.std.proofs.Common.{◌≡◌, ℕ, ◌+◌, ◌≤◌, min, length, ap, subst, ◌∙◌, sym, arith}
use Rattle.std.specs.List.{prefix_len}
use Rattle.std.proofs.lemmas.List.{length-map}
use Rattle.char_files.specs.Stretch.{Item}
use Rattle.reader_scanner.specs.declared.token.Token.{Token}
use Rattle.reader_scanner.specs.ReaderState.{ReaderState, item_bytes, bytes_from}
use Rattle.reader_scanner.specs.Tokens.{IsTokenAt, is_blank}
use Rattle.reader_scanner.proofs.OneToken.{scanned}
use Rattle.reader_scanner.proofs.Stretches.{stretch_within}
use Rattle.reader_scanner.proofs.scanner.Scanner.scan.Goals as goal

pub lexeme_at-lexeme-requires : goal.lexeme_at-lexeme-requires
lexeme_at-lexeme-requires g c =
    let items = g.S.Source.items c.self.inside.source.now in
    let from : c.min-from.result ≤ length items = omega (arith, c.min-from.ensures, c.len.ensures) in
    let e : c.stretch_end-beg.result
    ≡ c.min-from.result + prefix_len is_blank (bytes_from items c.min-from.result) =
    c.stretch_end-beg.ensures.end in
    omega (arith, e, stretch_within is_blank items c.min-from.result from)

pub returns-clause-token : goal.returns-clause-token
returns-clause-token g c =
    let items = g.S.Source.items c.self.inside.source.now in
    let token : Token = record {
      beg = c.stretch_end-beg.result;
      end = c.lexeme_at-lexeme.result.end;
      value = c.lexeme_at-lexeme.result.value;
    } in
    let len : c.len.result ≡ length (item_bytes items) =
    c.len.ensures ∙ sym (length-map items (λ (i : Item). i.0)) in
    let from : c.min-from.result ≡ min c.self.inside.pos (length (item_bytes items)) =
    c.min-from.ensures ∙ ap (λ (n : ℕ). min c.self.inside.pos n) len in
    let inner : IsTokenAt (item_bytes items) c.self.inside.pos token =
    scanned (item_bytes items) c.self.inside.pos c.min-from.result token from c.stretch_end-beg.ensures.end
    c.lexeme_at-lexeme.ensures.value c.lexeme_at-lexeme.ensures.end in
    subst (λ (p : ReaderState). IsTokenAt (item_bytes p.items) p.pos token) c.self.view_is inner
