use Rattle.std.proofs.Common.{◌≢◌, ◌∙◌, sym}
use Rattle.tree_order.proofs.SortedPathsLemmas.{paths_more}
use Rattle.tree_order.proofs.Turns.{names_differ}
use Rattle.tree_order.proofs.sorting.has_path.Goals as goal

pub loop-path-preserved : goal.loop-path-preserved
loop-path-preserved c =
    let path = c.path-item.result in
    let apart = names_differ path.of c.args.name (sym c.eq.ensures ∙ c.if-eq.false) in
    paths_more (λ d. d ≢ c.args.name) c.args.paths.now c.loop-path.path-index path c.loop-path-test.true
    c.path-item.is c.loop-path.invariant apart
