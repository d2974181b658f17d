use Rattle.std.proofs.Common.{◌-◌, ◌≤◌, vec_len, vec_capacity}
use Rattle.std.specs.List.{AllByRecursion}
use Rattle.piece_raw.specs.Spares.{IsSpare}
use Rattle.piece_raw.proofs.spares.fill_up.Given as goal

abbrev pub invariant-loop-alloc : goal.invariant-loop-alloc
invariant-loop-alloc g l = AllByRecursion IsSpare l.spare.items × (l.n ≤ vec_capacity l.spare)
    × (vec_len l.fn.spare ≤ vec_len l.spare)

abbrev pub decreases-loop-alloc : goal.decreases-loop-alloc
decreases-loop-alloc g l = l.n - vec_len l.spare
