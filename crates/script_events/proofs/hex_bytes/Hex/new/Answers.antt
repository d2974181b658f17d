use Rattle.std.proofs.Common.{◌<◌, length, sym, ◌∙◌, arith}
use Rattle.std.proofs.lemmas.Bool.{eqb-false, eqb-true}
use Rattle.script_events.specs.Script.{hex_in}
use Rattle.script_events.proofs.HexPairs.{IsChecked-more, IsChecked-wrong, IsChecked-all, hex_in-short, there_is_some}
use Rattle.script_events.proofs.hex_bytes.Hex.new.Goals as goal

pub returns-in_err-rest-clause-bytes : goal.returns-in_err-rest-clause-bytes
returns-in_err-rest-clause-bytes c =
    let some : 0 < length c.args.raw.now = omega (arith, eqb-false _ _ (sym c.is_empty.ensures ∙ c.if-is_empty.false)) in
    let left : 0 < length c.loop-rest.rest.now = omega (arith, eqb-false _ _ (sym c.is_empty-in-loop-rest.ensures ∙ c.loop-rest-test.true)) in
    c.from_residual.ensures ∙ sym (IsChecked-wrong c.loop-rest.invariant some left c.in_err-rest.ensures.value)

pub loop-rest-preserved : goal.loop-rest-preserved
loop-rest-preserved c = IsChecked-more c.in_ok-rest.field-0.0 c.in_ok-rest.field-0.1.now c.loop-rest.invariant c.in_ok-rest.ensures.value

pub invariant_of-result : goal.invariant_of-result
invariant_of-result c =
    let some : 0 < length c.args.raw.now = omega (arith, eqb-false _ _ (sym c.is_empty.ensures ∙ c.if-is_empty.false)) in
    there_is_some (hex_in c.args.raw.now) (IsChecked-all c.loop-rest.invariant some (eqb-true _ _ (sym c.is_empty-in-loop-rest.ensures ∙ c.loop-rest-test.false)))

pub returns-clause-bytes : goal.returns-clause-bytes
returns-clause-bytes c =
    let some : 0 < length c.args.raw.now = omega (arith, eqb-false _ _ (sym c.is_empty.ensures ∙ c.if-is_empty.false)) in
    IsChecked-all c.loop-rest.invariant some (eqb-true _ _ (sym c.is_empty-in-loop-rest.ensures ∙ c.loop-rest-test.false))

pub returns-clause-shorter : goal.returns-clause-shorter
returns-clause-shorter c =
    let some : 0 < length c.args.raw.now = omega (arith, eqb-false _ _ (sym c.is_empty.ensures ∙ c.if-is_empty.false)) in
    hex_in-short c.args.raw.now some
