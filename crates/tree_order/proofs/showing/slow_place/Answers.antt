use Rattle.std.proofs.Common.{◌≡◌, ◌∙◌, ◌+◌, Bool, true, false, cond, sym, subst, arith}
use Rattle.std.specs.List.{count_by}
use Rattle.char_files.specs.CharName.{CharName}
use Rattle.tree_order.specs.Order.{IsOrder}
use Rattle.tree_order.specs.Shown.{is_visible, up_to}
use Rattle.tree_order.proofs.ShownLemmas.{counted_all, counted_here}
use Rattle.tree_order.proofs.showing.slow_place.Goals as goal
use Rattle.tree_order.proofs.showing.slow_place.Goals.{else-loop-other-test, then-loop-other-test+then-eq}
use Rattle.tree_order.proofs.showing.slow_place.Goals.{then-is_visible, else-is_visible}

pub returns-clause-ok : goal.returns-clause-ok
returns-clause-ok c =
    let p : CharName → Bool = is_visible c.args.ops.now in
    let order = c.deref-other-items.result.now in
    let n = c.loop-other.other-index in
    let so_far = c.loop-other.place in (
      order,
      subst (IsOrder c.args.ops.now) (sym c.deref-other-items.ensures.value) c.in_ok-order.ensures.ok,
      elim c.loop-other-test.branch [
        | else-loop-other-test w ↦
            w.place-is ∙ counted_all p c.args.c order n so_far (omega arith) c.loop-other.invariant.counted
        | then-loop-other-test+then-eq w ↦
            let same = sym w.eq.ensures ∙ w.if-eq.true in
            let here : (passes : Bool) → w.is_visible.result ≡ passes
            → so_far + cond passes 1 0 ≡ count_by p (up_to c.args.c order) = λ passes is.
            counted_here p c.args.c w.other-item.result order n so_far passes w.loop-other-test.true
            w.other-item.is same (sym w.is_visible.ensures ∙ is) c.loop-other.invariant.counted in
            w.place-is ∙ elim w.if-is_visible.branch [
              | then-is_visible v ↦ v.place-is ∙ here true v.if-is_visible.true
              | else-is_visible v ↦ v.place-is ∙ omega (arith, here false v.if-is_visible.false)
            ]
      ],
    )
