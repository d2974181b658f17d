use Rattle.std.proofs.Common.{◌≡◌, List, take, take_all, subst, arith}
use Rattle.std.specs.Prelude.{IfNone}
use Rattle.std.proofs.lemmas.Bool.{iff_false}
use Rattle.operations.specs.Operation.{Operation}
use Rattle.tree_order.specs.Shown.{SwitchesBy}
use Rattle.tree_order.proofs.LastLemmas.{NoneSets, last_after, stays_after}
use Rattle.tree_order.proofs.showing.last_to_switch.Goals as goal
use Rattle.tree_order.proofs.showing.last_to_switch.Goals.{then-switches_over, else-switches_over}

pub loop-op-preserved : goal.loop-op-preserved
loop-op-preserved c =
    let ops = c.args.ops.now in
    let n = c.loop-op.op-index in
    let op = c.op-item.result in
    let sets : Operation → Type 0 = λ o. SwitchesBy o.kind c.args.c in
    let so_far = c.loop-op.invariant in
    elim c.if-switches_over.branch [
      | then-switches_over w ↦
          let over = c.switches_over.ensures.0 w.if-switches_over.true in
          let taken = last_after sets ops n op c.loop-op-test.true c.op-item.is (λ o. o.now) c.loop-op.last
          so_far.some so_far.none over.0 over.1 in
          rw w.last-is record { some = taken; none = tt }
      | else-switches_over w ↦
          let stays = stays_after sets ops n op c.loop-op-test.true c.op-item.is (λ o. o.now) c.loop-op.last
          so_far.some so_far.none (iff_false c.switches_over.ensures w.if-switches_over.false) in
          rw w.last-is record { some = stays.0; none = stays.1 }
    ]

pub returns-clause-none : goal.returns-clause-none
returns-clause-none c =
    let all : take c.loop-op.op-index c.args.ops.now ≡ c.args.ops.now = take_all _ _ (omega arith) in
    subst (λ (seen : List Operation).
    IfNone c.loop-op.last (NoneSets (λ o. SwitchesBy o.kind c.args.c) seen)) all c.loop-op.invariant.none
