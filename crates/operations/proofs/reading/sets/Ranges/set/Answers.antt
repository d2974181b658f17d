use Rattle.std.proofs.Common.{List, [], subst, arith}
use Rattle.operations.specs.NameSet.{Range}
use Rattle.operations.proofs.ReadSets.{IsRead, none_read, one_is_there, goes_on, all_read}
use Rattle.operations.proofs.reading.sets.Ranges.set.Goals as goal

pub loop-init : goal.loop-init
loop-init c =
    let count = c.self.inside.count in
    let raw = c.self.inside.raw.now in
    rw c.in_ok-ranges.ensures.items (
      subst (λ (all : List Range). IsRead all [] count 0 raw) c.self.view_is (none_read count raw c.self.invariant),
      omega (arith, c.in_ok-ranges.ensures.capacity),
    )

pub unreachable-requires : goal.unreachable-requires
unreachable-requires c =
    one_is_there c.args.self.now c.loop.ranges.items c.self.inside.count c.loop.counter c.loop.raw.now
    c.loop-test.true c.in_default.ensures c.loop.invariant.0

pub loop-preserved : goal.loop-preserved
loop-preserved c =
    rw c.push_reserved.ensures.items (
      goes_on c.args.self.now c.loop.ranges.items c.self.inside.count c.loop.counter c.loop.raw.now
          c.in-Some.next.0 c.in-Some.next.1.now c.loop-test.true c.in-Some.ensures c.loop.invariant.0,
      omega (arith, c.loop.invariant.1, c.push_reserved.ensures.capacity),
    )

pub of_ranges-requires-clause-set : goal.of_ranges-requires-clause-set
of_ranges-requires-clause-set c =
    rw (all_read c.args.self.now c.loop.ranges.items c.self.inside.count c.loop.counter c.loop.raw.now
    c.loop-test.false c.loop.invariant.0) c.requires.set

pub returns-clause-ok : goal.returns-clause-ok
returns-clause-ok c =
    rw c.of_ranges.ensures (all_read c.args.self.now c.loop.ranges.items c.self.inside.count c.loop.counter
    c.loop.raw.now c.loop-test.false c.loop.invariant.0)
