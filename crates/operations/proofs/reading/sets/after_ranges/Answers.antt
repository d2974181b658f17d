use Rattle.std.proofs.Common.{sym, ◌∙◌}
use Rattle.std.specs.Prelude.{None}
use Rattle.operations.specs.Reading.{ranges_at}
use Rattle.operations.proofs.ReadSets.{rest_of, rest_goes_on, rest_missing, rest_not_after, rest_is}
use Rattle.operations.proofs.reading.sets.after_ranges.Goals as goal

pub returns-in_default : goal.returns-in_default
returns-in_default c = rest_missing c.loop.last c.args.count c.loop.counter c.loop.rest.now
    (rest_of (ranges_at None c.args.count c.args.bytes.now)) c.loop-test.true c.in_default.ensures
    c.loop.invariant

pub returns-then-not-is_after : goal.returns-then-not-is_after
returns-then-not-is_after c =
    rest_not_after c.loop.last c.args.count c.loop.counter c.loop.rest.now c.in-Some.next.0
    c.in-Some.next.1.now (rest_of (ranges_at None c.args.count c.args.bytes.now)) c.loop-test.true
    c.in-Some.ensures (sym c.is_after.ensures ∙ c.if-not-is_after.true) c.loop.invariant

pub loop-preserved : goal.loop-preserved
loop-preserved c =
    rest_goes_on c.loop.last c.args.count c.loop.counter c.loop.rest.now c.in-Some.next.0
    c.in-Some.next.1.now (rest_of (ranges_at None c.args.count c.args.bytes.now)) c.loop-test.true
    c.in-Some.ensures (sym c.is_after.ensures ∙ c.if-not-is_after.false) c.loop.invariant

pub returns : goal.returns
returns c =
    rest_is c.loop.last c.args.count c.loop.counter c.loop.rest.now
    (rest_of (ranges_at None c.args.count c.args.bytes.now)) c.loop-test.false c.loop.invariant
