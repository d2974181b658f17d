use Rattle.std.proofs.Common.{◌∙◌}
use Rattle.operations.specs.Spelling.{range_spelling}
use Rattle.operations.proofs.Stripped.{stripped_next, stripped_end}
use Rattle.operations.proofs.stripping.after_ranges.Goals as goal

pub returns-in_err-rest : goal.returns-in_err-rest
returns-in_err-rest c =
    let next = stripped_next range_spelling c.args.ranges.now c.loop-range.range-index c.range-item.result
    c.loop-range.rest.now c.loop-range-test.true c.range-item.is in
    rw c.from_residual.ensures (c.loop-range.invariant ∙ (rw c.in_err-rest.ensures at next))

pub loop-range-preserved : goal.loop-range-preserved
loop-range-preserved c =
    let next = stripped_next range_spelling c.args.ranges.now c.loop-range.range-index c.range-item.result
    c.loop-range.rest.now c.loop-range-test.true c.range-item.is in
    c.loop-range.invariant ∙ (rw c.in_ok-rest.ensures at next)

pub returns : goal.returns
returns c =
    c.loop-range.invariant
    ∙ stripped_end range_spelling c.args.ranges.now c.loop-range.range-index c.loop-range.rest.now c.loop-range-test.false
