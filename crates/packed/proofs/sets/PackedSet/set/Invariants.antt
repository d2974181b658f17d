use Rattle.std.proofs.Common.{◌≤◌}
use Rattle.std.specs.Prelude.{vec_capacity}
use Rattle.packed.proofs.ReadSets.{IsRead}
use Rattle.packed.proofs.sets.PackedSet.set.Given as goal

-- the ranges so far and those still to come are all, and there is room for these
abbrev pub invariant-loop : goal.invariant-loop
invariant-loop l =
    IsRead l.fn.self l.ranges.items l.end l.counter l.site l.end-2 l.raw × (l.end ≤ vec_capacity l.ranges)
