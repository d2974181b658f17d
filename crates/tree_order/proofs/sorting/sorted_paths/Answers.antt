use Rattle.std.proofs.Common.{◌↔◌, List, Contains, subst}
use Rattle.std.proofs.lemmas.List.{take_all}
use Rattle.char_files.specs.CharName.{CharName}
use Rattle.operations.specs.Operation.{Operation}
use Rattle.tree_order.specs.SortedPaths.{names_of_paths}
use Rattle.tree_order.specs.Tree.{IsChar}
use Rattle.tree_order.proofs.SortedPathsLemmas.{each_more}
use Rattle.tree_order.proofs.sorting.sorted_paths.Goals as goal

pub loop-op-preserved : goal.loop-op-preserved
loop-op-preserved c = record {
  paths = c.in_ok-put_chars.ensures.paths;
  each = each_more c.args.ops.now c.loop-op.op-index c.op-item.result _ _ c.loop-op-test.true c.op-item.is
      c.loop-op.invariant.each c.in_ok-put_chars.ensures.gains;
}

pub returns-clause-each : goal.returns-clause-each
returns-clause-each c =
    let sorted = names_of_paths c.loop-op.paths.items in
    subst (λ (ops : List Operation). (d : CharName) → Contains sorted d ↔ IsChar ops d)
    (take_all c.loop-op.op-index c.args.ops.now c.loop-op-test.false) c.loop-op.invariant.each
