use Rattle.std.proofs.Common.{◌<◌, ◌≢◌, length, arith}
use Rattle.std.proofs.lemmas.Bool.{iff_false}
use Rattle.std.proofs.lemmas.List.{length-map}
use Rattle.tree_order.specs.declared.path_order.Path.{Path}
use Rattle.tree_order.specs.Order.{Before}
use Rattle.tree_order.specs.SortedPaths.{names_of_paths}
use Rattle.tree_order.proofs.Before.{sorted_with}
use Rattle.tree_order.proofs.SortedPathsLemmas.{names_of_paths-at, other_before, paths_more, IsPath-at}
use Rattle.tree_order.proofs.SortedPathsLemmas.{Contains-at}
use Rattle.tree_order.proofs.Tree.{IsChar-from_path}
use Rattle.tree_order.proofs.sorting.insertion_point.Goals as goal

pub returns-then-is_before-clause-sorted : goal.returns-then-is_before-clause-sorted
returns-then-is_before-clause-sorted c =
    let ops = c.args.ops.now in
    let paths = c.args.paths.now in
    let path = c.args.path.now in
    let long = length-map paths (λ (p : Path). p.of) in
    sorted_with ops c.requires.good (names_of_paths paths) c.loop-at.at path.of (omega arith)
    c.requires.paths.sorted c.loop-at.invariant
    (λ d lt. rw (names_of_paths-at paths c.loop-at.at c.index-paths-at.result d (omega arith)
    c.index-paths-at.is) (c.is_before.ensures.0 c.if-is_before.true))

pub loop-at-preserved : goal.loop-at-preserved
loop-at-preserved c =
    let ops = c.args.ops.now in
    let paths = c.args.paths.now in
    let path = c.args.path.now in
    let n = c.loop-at.at in
    let other = c.index-paths-at.result in
    let lt : n < length paths = c.loop-at-test.true in
    let is = IsChar-from_path ops path.of path.names.items c.requires.path in
    let is' =
    IsChar-from_path ops other.of other.names.items (IsPath-at ops paths c.requires.paths n other lt
    c.index-paths-at.is) in
    let apart : path.of ≢ other.of =
    λ e. c.requires.new (rw e (Contains-at paths n other lt c.index-paths-at.is)) in
    let after =
    other_before ops c.requires.good path.of other.of is is' apart (iff_false c.is_before.ensures
    c.if-is_before.false) in
    paths_more (λ d. Before ops d path.of) paths n other lt c.index-paths-at.is c.loop-at.invariant after

pub returns-clause-sorted : goal.returns-clause-sorted
returns-clause-sorted c =
    let paths = c.args.paths.now in
    let long = length-map paths (λ (p : Path). p.of) in
    sorted_with c.args.ops.now c.requires.good (names_of_paths paths) (length paths) c.args.path.now.of
    (omega arith) c.requires.paths.sorted (λ k d lt. c.loop-at.invariant k d (omega arith))
    (λ d lt. absurd (omega arith))
