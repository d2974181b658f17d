use Rattle.std.proofs.lemmas.Bool.{iff_false}
use Rattle.operations.specs.Operation.{Operation}
use Rattle.tree_order.specs.Attribute.{selects}
use Rattle.tree_order.specs.Looks.{Sets}
use Rattle.tree_order.proofs.LastLemmas.{last_taken, last_stays}
use Rattle.tree_order.proofs.attributes.last_to_set.Goals as goal
use Rattle.tree_order.proofs.attributes.last_to_set.Goals.{then-sets_over, else-sets_over}

pub loop-op-preserved : goal.loop-op-preserved
loop-op-preserved c =
    let ops = c.args.ops.now in
    let n = c.loop-op.op-index in
    let op = c.op-item.result in
    let sets : Operation → Type 0 = λ o. Sets o (selects c.args.attribute) c.args.c in
    elim c.if-sets_over.branch [
      | then-sets_over w ↦
          let over = c.sets_over.ensures.0 w.if-sets_over.true in
          let taken =
          last_taken sets ops n op c.loop-op-test.true c.op-item.is c.loop-op.last.now
          c.loop-op.invariant over.0 over.1 in
          rw w.last-is taken
      | else-sets_over w ↦
          let stays =
          last_stays sets ops n op c.loop-op-test.true c.op-item.is c.loop-op.last.now
          c.loop-op.invariant (iff_false c.sets_over.ensures w.if-sets_over.false) in
          rw w.last-is stays
    ]
