use Rattle.std.proofs.Common.{◌≡◌, ◌+◌, ◌*◌, ap, arith}
use Rattle.rank_index.specs.declared.groups.TheConstants.{GROUP}
use Rattle.rank_index.specs.Groups.{weight_to}
use Rattle.rank_index.proofs.Grouped.{weight_to-all}
use Rattle.rank_index.proofs.groups.group_at.Goals as goal

pub returns-then-left-groups-clause-left : goal.returns-then-left-groups-clause-left
returns-then-left-groups-clause-left c = c.loop-k.invariant

pub returns-then-left-groups-clause-holds : goal.returns-then-left-groups-clause-holds
returns-then-left-groups-clause-holds c =
    let next : GROUP * (c.loop-k.k + 1) ≡ GROUP * c.loop-k.k + GROUP = omega arith in
    omega (
      arith,
      c.loop-k.invariant,
      c.requires.groups.sums c.loop-k.k c.loop-k-test.true,
      c.if-left-groups.true,
      ap (weight_to c.args.chunks.now) next,
    )

pub loop-k-preserved : goal.loop-k-preserved
loop-k-preserved c =
    omega (arith, c.loop-k.invariant, c.requires.groups.sums c.loop-k.k c.loop-k-test.true, c.if-left-groups.false)

pub unreachable-requires : goal.unreachable-requires
unreachable-requires c =
    omega (
      arith,
      c.loop-k.invariant,
      weight_to-all
          c.args.chunks.now (GROUP * c.loop-k.k) (omega (arith, c.requires.groups.all, c.loop-k-test.false)),
      c.requires.within,
    )
