use Rattle.std.proofs.Common.{◌-◌}
use Rattle.operations.specs.NameSet.{IsIn}
use Rattle.tree_order.specs.SortedPaths.{names_of_paths, AreSortedPaths, Gains}
use Rattle.tree_order.proofs.sorting.put_chars.Given as goal

-- the first bytes' characters have their paths
abbrev pub invariant-loop-off : goal.invariant-loop-off
invariant-loop-off l = record {
  paths : AreSortedPaths l.ops l.paths.items;
  gains : Gains (names_of_paths l.fn.paths.items) (names_of_paths l.paths.items) (IsIn (record {
    site =
        l.op.site;
    at = l.initial.off;
    len = l.off - l.initial.off;
  }));
}
