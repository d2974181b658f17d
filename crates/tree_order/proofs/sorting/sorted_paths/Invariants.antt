use Rattle.std.proofs.Common.{◌↔◌, take, Contains}
use Rattle.char_files.specs.CharName.{CharName}
use Rattle.tree_order.specs.Tree.{IsChar}
use Rattle.tree_order.specs.SortedPaths.{names_of_paths, AreSortedPaths}
use Rattle.tree_order.proofs.sorting.sorted_paths.Given as goal

-- the characters of the operations so far have their paths
abbrev pub invariant-loop-op : goal.invariant-loop-op
invariant-loop-op l = record {
  paths : AreSortedPaths l.ops l.paths.items;
  each : (c : CharName) → Contains (names_of_paths l.paths.items) c ↔ IsChar (take l.op-index l.ops) c;
}
