use Rattle.std.proofs.Common.{arith}
use Rattle.operations.proofs.Joins.{none_joined, starts_to_here, one_more_joined, all_joined}
use Rattle.operations.proofs.joining.join.Goals as goal

pub loop-i-init : goal.loop-i-init
loop-i-init c = none_joined c.args.ranges.now.items

pub keep-kept-requires-clause-within : goal.keep-kept-requires-clause-within
keep-kept-requires-clause-within c = omega (arith, c.loop-i.invariant.within, c.loop-i.invariant.len)

pub keep-kept-requires-clause-set : goal.keep-kept-requires-clause-set
keep-kept-requires-clause-set c = c.loop-i.invariant.set

pub keep-kept-requires-clause-rising : goal.keep-kept-requires-clause-rising
keep-kept-requires-clause-rising c =
    starts_to_here c.args.ranges.now.items c.loop-i.ranges.items c.loop-i.kept c.loop-i.i
    c.index-range.result.now (omega arith) c.index-range.ensures c.loop-i.invariant

pub loop-i-preserved : goal.loop-i-preserved
loop-i-preserved c =
    one_more_joined c.args.ranges.now.items c.loop-i.ranges.items c.loop-i.kept c.loop-i.i
    c.index-range.result.now (omega arith) c.index-range.ensures c.loop-i.invariant
    c.keep-kept.new.ranges.items c.keep-kept.result c.requires c.keep-kept.ensures.within.1
    c.keep-kept.ensures.len c.keep-kept.ensures.rest c.keep-kept.ensures.set c.keep-kept.ensures.rising
    c.keep-kept.ensures.names

pub returns-clause-set : goal.returns-clause-set
returns-clause-set c = rw c.truncate.ensures.items c.loop-i.invariant.set

pub returns-clause-names : goal.returns-clause-names
returns-clause-names c =
    rw c.truncate.ensures.items (all_joined c.args.ranges.now.items c.loop-i.ranges.items c.loop-i.kept
    c.loop-i.i (omega arith) c.loop-i.invariant)
