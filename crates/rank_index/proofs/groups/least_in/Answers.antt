use Rattle.std.proofs.Common.{ap, arith}
use Rattle.std.proofs.lemmas.List.{take_all}
use Rattle.rank_index.specs.Groups.{least_among}
use Rattle.rank_index.proofs.Lows.{least_next}
use Rattle.rank_index.proofs.groups.least_in.Goals as goal

pub loop-chunk-preserved : goal.loop-chunk-preserved
loop-chunk-preserved c =
    omega (
      arith,
      c.loop-chunk.invariant,
      c.min-least.ensures,
      c.least.ensures,
      least_next c.args.chunks.now c.loop-chunk.chunk-index c.chunk-item.result c.loop-chunk-test.true c.chunk-item.is,
    )

pub returns : goal.returns
returns c =
    omega (
      arith,
      c.loop-chunk.invariant,
      ap least_among (take_all c.loop-chunk.chunk-index c.args.chunks.now (omega (arith, c.loop-chunk-test.false))),
    )
