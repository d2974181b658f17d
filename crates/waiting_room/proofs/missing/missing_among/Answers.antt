use Rattle.std.proofs.Common.{List, take_all, sym, subst, arith}
use Rattle.std.proofs.lemmas.Bool.{both_ways}
use Rattle.std.proofs.lemmas.List.Elements.{All-more}
use Rattle.operations.specs.NameSet.{Range, IsAmong}
use Rattle.waiting_room.specs.Judged.{last_of, AreForeignHere, IsMissing}
use Rattle.waiting_room.proofs.LastNames.{NoneMissing, foreign_by_last}
use Rattle.waiting_room.proofs.missing.missing_among.Goals as goal

pub loop-range-preserved : goal.loop-range-preserved
loop-range-preserved g c =
    let ops = g.H.Held.ops c.args.held.now in
    let P : Range → Type 0 = λ r. ¬ IsMissing ops c.args.site (last_of r) in
    let range = c.range-item.result in
    let here : P range = λ missing. both_ways c.is_missing.result c.if-is_missing.false
    (c.is_missing.ensures.1 (subst (IsMissing ops c.args.site) (sym c.last_name-name.ensures) missing)) in
    All-more P c.ranges-range-items.result.now c.loop-range.range-index range c.loop-range-test.true
    c.loop-range.invariant (subst P c.range-item.is here)

pub returns-clause-none : goal.returns-clause-none
returns-clause-none g c =
    let ops = g.H.Held.ops c.args.held.now in
    let past = c.loop-range-test.false in
    let ranges = c.ranges-range-items.result.now in
    subst (λ (names : List Range). AreForeignHere ops c.args.site (IsAmong names)) c.ranges-range-items.ensures.value
    (foreign_by_last ops c.args.site ranges
    (subst (NoneMissing ops c.args.site) (take_all c.loop-range.range-index ranges (omega arith)) c.loop-range.invariant))
