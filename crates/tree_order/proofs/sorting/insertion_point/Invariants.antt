use Rattle.std.proofs.Common.{ℕ, ◌<◌, get_or}
use Rattle.char_files.specs.CharName.{CharName}
use Rattle.tree_order.specs.Order.{Before}
use Rattle.tree_order.specs.SortedPaths.{names_of_paths}
use Rattle.tree_order.proofs.sorting.insertion_point.Given as goal

-- the characters so far stand before the path's
abbrev pub invariant-loop-at : goal.invariant-loop-at
invariant-loop-at l = (k : ℕ) (d : CharName) → k < l.at → Before l.ops (get_or (names_of_paths l.paths) k d)
    l.path.of
