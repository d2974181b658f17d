use Rattle.std.proofs.Common.{◌≡◌, ◌++◌, take}
use Rattle.std.specs.List.{flat_map}
use Rattle.operations.specs.Spelling.{range_spelling}
use Rattle.operations.proofs.writing.put_ranges.Given as goal

-- the ranges so far are spelled
abbrev pub invariant-loop-range : goal.invariant-loop-range
invariant-loop-range l = l.out.items ≡ l.fn.out.items ++ flat_map range_spelling (take l.range-index l.ranges)
