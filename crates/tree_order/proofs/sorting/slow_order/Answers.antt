use Rattle.std.proofs.Common.{List, ◌∙◌, ap, subst, sym}
use Rattle.std.proofs.lemmas.Result.{IfOk-weaker}
use Rattle.char_files.specs.CharName.{CharName}
use Rattle.tree_order.specs.Order.{IsOrder}
use Rattle.tree_order.specs.SortedPaths.{names_of_paths}
use Rattle.tree_order.proofs.Before.{IsOrder-from_sorted}
use Rattle.tree_order.proofs.sorting.slow_order.Goals as goal

pub returns-clause-ok : goal.returns-clause-ok
returns-clause-ok c =
    let ops = c.args.ops.now in
    let sorted = c.in_ok-paths.paths.items in
    let is = IsOrder-from_sorted ops c.requires (names_of_paths sorted) c.in_ok-paths.ensures.each
    c.in_ok-paths.ensures.paths.sorted in
    IfOk-weaker c.names_of_paths.result _ _ (λ names e. subst (λ (xs : List CharName). IsOrder ops xs)
    (sym (e ∙ ap names_of_paths c.deref.ensures.value)) is) c.names_of_paths.ensures.ok
