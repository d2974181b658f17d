use Rattle.std.proofs.Common.{◌≡◌, ℕ, ◌+◌, ◌-◌, ◌*◌, ◌/◌, ap, arith}
use Rattle.rank_index.specs.declared.groups.TheConstants.{GROUP}
use Rattle.rank_index.specs.Groups.{weight_to}
use Rattle.rank_index.proofs.Grouped.{weight_to-more}
use Rattle.rank_index.proofs.Weights.{weight_to-most}
use Rattle.rank_index.proofs.groups.weight_before.Goals as goal
use Rattle.rank_index.proofs.groups.weight_before.Goals.{After-weight_in}

pub bounds-groups-k : goal.bounds-groups-k
bounds-groups-k c = omega (arith, c.loop-k-test.true, c.requires.slot, c.requires.groups.all)

pub overflow_add-weight : goal.overflow_add-weight
overflow_add-weight c =
    omega (
      arith,
      c.loop-k.invariant,
      c.requires.groups.sums c.loop-k.k (omega (arith, c.loop-k-test.true, c.requires.slot, c.requires.groups.all)),
      weight_to-most c.args.chunks.now (GROUP * (c.loop-k.k + 1)),
      c.requires.total,
    )

pub loop-k-preserved : goal.loop-k-preserved
loop-k-preserved c =
    omega (
      arith,
      c.loop-k.invariant,
      c.requires.groups.sums c.loop-k.k (omega (arith, c.loop-k-test.true, c.requires.slot, c.requires.groups.all)),
    )

pub weight_in-requires : goal.weight_in-requires
weight_in-requires c =
    let first : ℕ = GROUP * (c.args.slot / GROUP) in
    let n : ℕ = c.args.slot - first in
    omega (
      arith,
      weight_to-more c.args.chunks.now first n,
      weight_to-most c.args.chunks.now (first + n),
      c.requires.total,
    )

-- whole groups and the chunks after them
all : (c : After-weight_in) → c.loop-k.weight + c.weight_in.result ≡ weight_to c.args.chunks.now c.args.slot
all c =
    let first : ℕ = GROUP * (c.args.slot / GROUP) in
    let n : ℕ = c.args.slot - first in
    let last : GROUP * c.loop-k.k ≡ first = omega (arith, c.loop-k-test.false, c.loop-k.auto.k-end) in
    let sum : first + n ≡ c.args.slot = omega arith in
    omega (
      arith,
      c.loop-k.invariant,
      ap (weight_to c.args.chunks.now) last,
      ap (weight_to c.args.chunks.now) sum,
      weight_to-more c.args.chunks.now first n,
      c.weight_in.ensures,
    )

pub overflow_add-result : goal.overflow_add-result
overflow_add-result c =
    omega (
      arith,
      all (goal.at.overflow_add-result c).After-weight_in,
      weight_to-most c.args.chunks.now c.args.slot,
      c.requires.total,
    )

pub returns : goal.returns
returns c = all (goal.at.returns c).After-weight_in
