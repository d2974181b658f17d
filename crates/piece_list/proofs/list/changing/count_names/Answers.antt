use Rattle.std.proofs.Common.{arith}
use Rattle.piece_list.proofs.Noted.{one_range_more}
use Rattle.piece_list.proofs.list.changing.count_names.Goals as goal

pub overflow_add-count : goal.overflow_add-count
overflow_add-count c = omega (
  arith,
  c.loop-range.invariant.few,
  c.loop-range-test.true,
  c.requires,
  c.len.ensures.value,
  c.len.ensures.range.3,
)

pub loop-range-preserved : goal.loop-range-preserved
loop-range-preserved c = record {
  counted = omega (
    arith,
    c.loop-range.invariant.counted,
    c.len.ensures.value,
    one_range_more c.args.ranges.now c.loop-range.range-index c.range-item.result c.loop-range-test.true c.range-item.is,
  );
  few = omega (arith, c.loop-range.invariant.few, c.len.ensures.value, c.len.ensures.range.3);
}
