use Rattle.std.proofs.Common.{◌≡◌, ◌-◌, None}
use Rattle.operations.specs.Reading.{ranges_at}
use Rattle.operations.proofs.ReadSets.{rest_of}
use Rattle.operations.proofs.reading.sets.after_ranges.Given as goal

-- what is left after the ranges that are still to come is left after all
abbrev pub invariant-loop : goal.invariant-loop
invariant-loop l =
    rest_of (ranges_at l.last (l.count - l.counter) l.rest) ≡ rest_of (ranges_at None l.count l.bytes)
