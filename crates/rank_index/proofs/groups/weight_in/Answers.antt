use Rattle.std.proofs.Common.{arith}
use Rattle.rank_index.proofs.Weights.{weight_within}
use Rattle.rank_index.proofs.groups.weight_in.Goals as goal

pub overflow_add-weight : goal.overflow_add-weight
overflow_add-weight c = omega (
  arith,
  c.loop-chunk.invariant,
  c.sum-weight.ensures,
  c.requires,
  weight_within c.args.chunks.now c.loop-chunk.chunk-index c.chunk-item.result c.loop-chunk-test.true
      c.chunk-item.is,
)
