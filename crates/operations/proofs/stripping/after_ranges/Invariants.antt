use Rattle.std.proofs.Common.{◌≡◌, drop}
use Rattle.std.specs.List.{flat_map}
use Rattle.operations.specs.Spelling.{range_spelling}
use Rattle.operations.specs.Stripped.{stripped}
use Rattle.operations.proofs.stripping.after_ranges.Given as goal

-- the ranges that are still to come are to be taken off what is left
abbrev pub invariant-loop-range : goal.invariant-loop-range
invariant-loop-range l =
    stripped (flat_map range_spelling l.ranges) l.bytes
    ≡ stripped (flat_map range_spelling (drop l.range-index l.ranges)) l.rest
