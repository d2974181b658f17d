use Rattle.std.proofs.Common.{◌≡◌, ◌++◌, map}
use Rattle.piece_list.specs.RunSplits.{AreWithin}
use Rattle.taken_text.specs.Shown.{range_of_run}
use Rattle.taken_text.proofs.stretches.ranges_of.Given as goal

-- the ranges and those of the runs that are left are all
abbrev pub invariant-loop-run : goal.invariant-loop-run
invariant-loop-run l =
    (goal.iterator-loop-run).can_next l.run-iterator × (goal.iterator-loop-run).is_finite l.run-iterator
    × (l.ranges.items ++ map range_of_run l.run-iterator ≡ map range_of_run l.initial.run-iterator)
    × AreWithin l.run-iterator
