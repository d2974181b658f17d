use Rattle.std.proofs.Common.{◌≢◌, ℕ, ◌<◌, get_or}
use Rattle.char_files.specs.CharName.{CharName}
use Rattle.tree_order.specs.SortedPaths.{names_of_paths}
use Rattle.tree_order.proofs.sorting.has_path.Given as goal

-- the characters so far are others
abbrev pub invariant-loop-path : goal.invariant-loop-path
invariant-loop-path l = (k : ℕ) (d : CharName) → k < l.path-index
    → get_or (names_of_paths l.paths) k d ≢ l.name
