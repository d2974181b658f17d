use Rattle.std.proofs.Common.{drop}
use Rattle.std.proofs.lemmas.Result.{err_from_is_err_and}
use Rattle.packed.specs.Sets.{ranges_after}
use Rattle.packed.proofs.Parts.{put_refused}
use Rattle.packed.proofs.WriteSets.{nothing_put, next_follows, range_put, all_put}
use Rattle.packed.proofs.sets.put_ranges.Goals as goal

pub loop-range-init : goal.loop-range-init
loop-range-init c = nothing_put c.args.out.now.items c.args.ranges.now c.requires

pub put_range-requires : goal.put_range-requires
put_range-requires c =
    next_follows c.args.out.now.items c.loop-range.out.items c.args.ranges.now c.loop-range.range-index c.loop-range.site
    c.loop-range.end c.range-item.result c.loop-range-test.true c.range-item.is c.loop-range.invariant

pub returns-in_err-put_range : goal.returns-in_err-put_range
returns-in_err-put_range c =
    let refused = err_from_is_err_and c.from_residual.result c.from_residual.ensures.1 in
    put_refused c.from_residual.result c.args.out.now.items c.loop-range.out.items c.put_range.new.out.items
    (ranges_after 0 0 c.args.ranges.now)
    (ranges_after c.loop-range.site c.loop-range.end (drop c.loop-range.range-index c.args.ranges.now))
    c.loop-range.invariant.put refused.0 refused.1 c.in_err-put_range.ensures

pub loop-range-preserved : goal.loop-range-preserved
loop-range-preserved c =
    rw (c.get-site.ensures.value, c.site.ensures, c.at.ensures, c.len.ensures.value)
    (range_put c.args.out.now.items c.loop-range.out.items c.put_range.new.out.items c.args.ranges.now
    c.loop-range.range-index c.loop-range.site c.loop-range.end c.range-item.result c.loop-range-test.true
    c.range-item.is c.loop-range.invariant c.in_ok-put_range.ensures)

pub returns : goal.returns
returns c =
    all_put c.args.out.now.items c.loop-range.out.items c.args.ranges.now c.loop-range.range-index c.loop-range.site
    c.loop-range.end c.loop-range-test.false c.loop-range.invariant
