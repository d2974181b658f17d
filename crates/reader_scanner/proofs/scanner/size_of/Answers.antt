use Rattle.std.proofs.Common.{◌≡◌, ℕ, ◌+◌, ◌*◌, ◌<◌, refl, sym, subst, arith, rules}
use Rattle.std.specs.Prelude.{false}
use Rattle.std.specs.Char.{digit_value}
use Rattle.reader_scanner.specs.ReaderState.{bytes_between}
use Rattle.reader_scanner.specs.Tokens.{is_size}
use Rattle.reader_scanner.proofs.Numbers.{no_digit, too_large, size_goes_on, next_is}
use Rattle.reader_scanner.proofs.scanner.size_of.Goals as goal

pub returns-in_err-digit : goal.returns-in_err-digit
returns-in_err-digit g c =
    let items = g.S.Source.items c.args.source.now in
    let test : is_size c.args.radix (bytes_between items c.args.beg c.args.end) ≡ false =
    no_digit c.args.radix items c.args.beg c.loop-pos.pos c.args.end c.byte_at.result c.loop-pos.auto.pos
    (omega arith) c.requires.inside c.byte_at.ensures
    (λ d. c.in_err-digit.ensures.value (subst (λ (x : ℕ). digit_value x < c.args.radix) (sym
    c.from.ensures) d)) in
    rw test (search rules)

pub returns-then-from-next : goal.returns-then-from-next
returns-then-from-next g c =
    let items = g.S.Source.items c.args.source.now in
    let test : is_size c.args.radix (bytes_between items c.args.beg c.args.end) ≡ false =
    too_large c.args.radix items c.args.beg c.loop-pos.pos c.args.end c.byte_at.result c.loop-pos.size
    (c.from-in-loop-pos.result * c.from-in-loop-pos-2.result + c.from-in-loop-pos-3.result)
    (omega arith) c.loop-pos.auto.pos (omega arith) c.requires.inside c.byte_at.ensures
    (next_is _ _ _ c.loop-pos.size c.args.radix c.in_ok-digit.digit c.from.result c.byte_at.result
    c.from-in-loop-pos.ensures c.from-in-loop-pos-2.ensures c.from-in-loop-pos-3.ensures
    (sym c.in_ok-digit.ensures.value.1) c.from.ensures) (omega arith) c.loop-pos.invariant in
    rw test refl

pub loop-pos-preserved : goal.loop-pos-preserved
loop-pos-preserved g c =
    let items = g.S.Source.items c.args.source.now in
    size_goes_on c.args.radix items c.args.beg c.loop-pos.pos c.byte_at.result c.loop-pos.size
    (c.from-in-loop-pos.result * c.from-in-loop-pos-2.result + c.from-in-loop-pos-3.result)
    c.loop-pos.auto.pos (omega arith) c.byte_at.ensures
    (subst (λ (x : ℕ). digit_value x < c.args.radix) c.from.ensures c.in_ok-digit.ensures.value.0)
    (next_is _ _ _ c.loop-pos.size c.args.radix c.in_ok-digit.digit c.from.result c.byte_at.result
    c.from-in-loop-pos.ensures c.from-in-loop-pos-2.ensures c.from-in-loop-pos-3.ensures
    (sym c.in_ok-digit.ensures.value.1) c.from.ensures) (omega arith) c.loop-pos.invariant
