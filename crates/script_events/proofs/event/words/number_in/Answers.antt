use Rattle.std.proofs.Common.{◌≡◌, ◌+◌, ◌*◌, ◌≤◌, length, sym, ap, subst, ◌∙◌, arith}
use Rattle.std.proofs.lemmas.Bool.{eqb-false}
use Rattle.script_events.proofs.Words.{SpellsSoFar, is_digit, is_other, number_in-other, number_in-read, reads_on}
use Rattle.script_events.proofs.event.words.number_in.Goals as goal

pub returns-then-not-is_ascii_digit : goal.returns-then-not-is_ascii_digit
returns-then-not-is_ascii_digit c =
    sym (number_in-other c.args.word.now c.loop-byte.byte-index (omega arith) (is_other _ (sym c.is_ascii_digit.ensures.value ∙ c.if-not-is_ascii_digit.true)))

pub loop-byte-preserved : goal.loop-byte-preserved
loop-byte-preserved c =
    reads_on c.args.word.now c.loop-byte.byte-index c.loop-byte.number _ (omega arith)
    (is_digit _ (sym c.is_ascii_digit.ensures.value ∙ c.if-not-is_ascii_digit.false))
    (ap (λ d. c.loop-byte.number * 10 + d) c.from.ensures) c.loop-byte.invariant

pub returns : goal.returns
returns c =
    let some : 1 ≤ length c.args.word.now = omega (arith, eqb-false _ _ (sym c.is_empty.ensures ∙ c.if-is_empty.false)) in
    let all : c.loop-byte.byte-index ≡ length c.args.word.now = omega arith in
    c.ok.ensures.value ∙ number_in-read c.args.word.now c.loop-byte.number c.try_from.result some (omega arith)
    (subst (λ n. SpellsSoFar c.args.word.now n c.loop-byte.number) all c.loop-byte.invariant) c.try_from.ensures
