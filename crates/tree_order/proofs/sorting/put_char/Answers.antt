use Rattle.std.proofs.Common.{AllPairs, insert}
use Rattle.tree_order.specs.Order.{Before}
use Rattle.tree_order.specs.SortedPaths.{names_of_paths}
use Rattle.tree_order.specs.Tree.{IsPath}
use Rattle.tree_order.proofs.SortedPathsLemmas.{AreSortedPaths-insert, gains_one}
use Rattle.tree_order.proofs.sorting.put_char.Goals as goal

pub returns-clause-paths : goal.returns-clause-paths
returns-clause-paths c =
    let ops = c.args.ops.now in
    let path = c.in_ok-path.path in
    let own : IsPath ops path.of path.names.items =
    rw c.in_ok-path.ensures.path.0 c.in_ok-path.ensures.path.1 in
    let sorted : AllPairs (Before ops) (insert (names_of_paths c.args.paths.now.items)
    c.insertion_point-at.result path.of) =
    rw c.deref-2.ensures.value at c.insertion_point-at.ensures.sorted in
    rw c.in_ok-insert.ensures.items (AreSortedPaths-insert ops c.args.paths.now.items
    c.insertion_point-at.result path c.requires.paths own sorted)

pub returns-clause-gains : goal.returns-clause-gains
returns-clause-gains c =
    let path = c.in_ok-path.path in
    let gains = gains_one c.args.paths.now.items c.insertion_point-at.result path in
    rw (c.in_ok-insert.ensures.items, ← c.in_ok-path.ensures.path.0) gains
