use Rattle.std.proofs.Common.{◌≡◌, sym, ap, ◌∙◌, arith}
use Rattle.std.specs.Prelude.{true}
use Rattle.std.specs.Char.{is_ascii_alphabetic, is_ascii_digit}
use Rattle.reader_scanner.specs.Lexeme.{Lexeme}
use Rattle.reader_scanner.proofs.Scanning.{is_none, is_name, is_string, is_int, is_negative, is_other}
use Rattle.reader_scanner.proofs.scanner.lexeme_at.Goals as goal

pub returns-then-len-beg-clause-value : goal.returns-then-len-beg-clause-value
returns-then-len-beg-clause-value g c =
    sym (ap (λ (l : Lexeme). l.token) (is_none (g.S.Source.items c.args.source.now) c.args.beg (omega arith)))

pub returns-then-len-beg-clause-end : goal.returns-then-len-beg-clause-end
returns-then-len-beg-clause-end g c =
    omega (
      arith,
      ap (λ (l : Lexeme). l.len) (is_none (g.S.Source.items c.args.source.now) c.args.beg
          (omega arith)),
    )

pub returns-then-is_ascii_alphabetic-clause-value : goal.returns-then-is_ascii_alphabetic-clause-value
returns-then-is_ascii_alphabetic-clause-value g c =
    let letter : is_ascii_alphabetic c.byte_at-byte.result ≡ true =
    sym c.is_ascii_alphabetic.ensures.value ∙ c.if-is_ascii_alphabetic.true in
    c.name_at.ensures.value ∙ sym (ap (λ (l : Lexeme). l.token) (is_name (g.S.Source.items c.args.source.now)
    c.args.beg c.byte_at-byte.result c.byte_at-byte.ensures letter))

pub returns-then-is_ascii_alphabetic-clause-end : goal.returns-then-is_ascii_alphabetic-clause-end
returns-then-is_ascii_alphabetic-clause-end g c =
    let letter : is_ascii_alphabetic c.byte_at-byte.result ≡ true =
    sym c.is_ascii_alphabetic.ensures.value ∙ c.if-is_ascii_alphabetic.true in
    omega (
      arith,
      c.name_at.ensures.end,
      ap (λ (l : Lexeme). l.len) (is_name (g.S.Source.items
          c.args.source.now) c.args.beg c.byte_at-byte.result c.byte_at-byte.ensures letter),
    )

pub returns-then-byte-eq34-clause-value : goal.returns-then-byte-eq34-clause-value
returns-then-byte-eq34-clause-value g c =
    c.string_at.ensures.value ∙ sym (ap (λ (l : Lexeme). l.token) (is_string (g.S.Source.items
    c.args.source.now) c.args.beg c.byte_at-byte.result c.byte_at-byte.ensures c.if-byte-eq34.true))

pub returns-then-byte-eq34-clause-end : goal.returns-then-byte-eq34-clause-end
returns-then-byte-eq34-clause-end g c =
    omega (
      arith,
      c.string_at.ensures.end,
      ap (λ (l : Lexeme). l.len) (is_string (g.S.Source.items
          c.args.source.now) c.args.beg c.byte_at-byte.result c.byte_at-byte.ensures c.if-byte-eq34.true),
    )

pub returns-then-is_ascii_digit-clause-value : goal.returns-then-is_ascii_digit-clause-value
returns-then-is_ascii_digit-clause-value g c =
    let digit : is_ascii_digit c.byte_at-byte.result ≡ true =
    sym c.is_ascii_digit.ensures.value ∙ c.if-is_ascii_digit.true in
    c.int_at.ensures.value ∙ sym (ap (λ (l : Lexeme). l.token) (is_int (g.S.Source.items c.args.source.now)
    c.args.beg c.byte_at-byte.result c.byte_at-byte.ensures digit))

pub returns-then-is_ascii_digit-clause-end : goal.returns-then-is_ascii_digit-clause-end
returns-then-is_ascii_digit-clause-end g c =
    let digit : is_ascii_digit c.byte_at-byte.result ≡ true =
    sym c.is_ascii_digit.ensures.value ∙ c.if-is_ascii_digit.true in
    omega (
      arith,
      c.int_at.ensures.end,
      ap (λ (l : Lexeme). l.len) (is_int (g.S.Source.items
          c.args.source.now) c.args.beg c.byte_at-byte.result c.byte_at-byte.ensures digit),
    )

pub returns-then-begins_negative-clause-value : goal.returns-then-begins_negative-clause-value
returns-then-begins_negative-clause-value g c =
    c.int_at-then-begins_negative.ensures.value
    ∙ sym (ap (λ (l : Lexeme). l.token) (is_negative (g.S.Source.items
    c.args.source.now) c.args.beg (sym c.begins_negative.ensures ∙ c.if-begins_negative.true)))

pub returns-then-begins_negative-clause-end : goal.returns-then-begins_negative-clause-end
returns-then-begins_negative-clause-end g c =
    omega (
      arith,
      c.int_at-then-begins_negative.ensures.end,
      ap (λ (l : Lexeme). l.len) (is_negative (g.S.Source.items
          c.args.source.now) c.args.beg (sym c.begins_negative.ensures ∙ c.if-begins_negative.true)),
    )

pub returns-else-begins_negative-clause-value : goal.returns-else-begins_negative-clause-value
returns-else-begins_negative-clause-value g c =
    sym (ap (λ (l : Lexeme). l.token) (is_other (g.S.Source.items c.args.source.now) c.args.beg
    c.byte_at-byte.result (omega arith) c.byte_at-byte.ensures
    (sym c.is_ascii_alphabetic.ensures.value ∙ c.if-is_ascii_alphabetic.false) c.if-byte-eq34.false
    (sym c.is_ascii_digit.ensures.value ∙ c.if-is_ascii_digit.false)
    (sym c.begins_negative.ensures ∙ c.if-begins_negative.false)))

pub returns-else-begins_negative-clause-end : goal.returns-else-begins_negative-clause-end
returns-else-begins_negative-clause-end g c =
    omega (
      arith,
      ap (λ (l : Lexeme). l.len) (is_other (g.S.Source.items c.args.source.now) c.args.beg
          c.byte_at-byte.result (omega arith) c.byte_at-byte.ensures
          (sym c.is_ascii_alphabetic.ensures.value ∙ c.if-is_ascii_alphabetic.false) c.if-byte-eq34.false
          (sym c.is_ascii_digit.ensures.value ∙ c.if-is_ascii_digit.false)
          (sym c.begins_negative.ensures ∙ c.if-begins_negative.false)),
    )
