use Rattle.packed.specs.Sets.{ranges_after_at}
use Rattle.packed.proofs.ReadSets.{rest_of, rest_goes_on, rest_missing, rest_is}
use Rattle.packed.proofs.sets.after_ranges.Goals as goal

pub returns-in_default : goal.returns-in_default
returns-in_default c =
    rest_missing c.args.count c.loop.counter c.loop.site c.loop.end c.loop.rest.now
    (rest_of (ranges_after_at c.args.count 0 0 c.args.bytes.now)) c.loop-test.true c.in_default.ensures
    c.loop.invariant

pub loop-preserved : goal.loop-preserved
loop-preserved c =
    rw (c.get-site.ensures.value, c.site.ensures, c.at.ensures, c.len.ensures.value)
    (rest_goes_on c.args.count c.loop.counter c.loop.site c.loop.end c.loop.rest.now c.in-Some.next.0 c.in-Some.next.1.now
    (rest_of (ranges_after_at c.args.count 0 0 c.args.bytes.now)) c.loop-test.true c.in-Some.ensures
    c.loop.invariant)

pub returns : goal.returns
returns c =
    rest_is c.args.count c.loop.counter c.loop.site c.loop.end c.loop.rest.now
    (rest_of (ranges_after_at c.args.count 0 0 c.args.bytes.now)) c.loop-test.false c.loop.invariant
