use Rattle.std.proofs.Common.{◌≡◌, ◌-◌}
use Rattle.packed.specs.Sets.{ranges_after_at}
use Rattle.packed.proofs.ReadSets.{rest_of}
use Rattle.packed.proofs.sets.after_ranges.Given as goal

-- what is left after the ranges that are still to come is left after all
abbrev pub invariant-loop : goal.invariant-loop
invariant-loop l =
    rest_of (ranges_after_at (l.count - l.counter) l.site l.end l.rest) ≡ rest_of (ranges_after_at l.count 0 0 l.bytes)
