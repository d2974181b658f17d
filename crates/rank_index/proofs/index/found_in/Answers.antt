use Rattle.rank_index.proofs.Weights.{found_here}
use Rattle.rank_index.proofs.index.found_in.Goals as goal

pub returns-then-left-sum : goal.returns-then-left-sum
returns-then-left-sum c =
    found_here c.args.chunks.now c.loop-chunk.chunk-index c.chunk-item.result c.loop-chunk-test.true c.chunk-item.is
    c.args.pos c.loop-chunk.left c.find.result.0 c.find.result.1 c.loop-chunk.invariant c.find.ensures
