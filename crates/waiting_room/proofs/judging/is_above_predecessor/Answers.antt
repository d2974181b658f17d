use Rattle.std.proofs.Common.{◌≡◌, ◌<◌, Contains, sym, ◌∙◌, arith}
use Rattle.std.proofs.lemmas.Bool.{ltb-true, lt-ltb}
use Rattle.operations.specs.Operation.{Operation}
use Rattle.tree_order.specs.Good.{IsPredecessor}
use Rattle.waiting_room.proofs.judging.is_above_predecessor.Goals as goal

pub returns-else-seq-eq1 : goal.returns-else-seq-eq1
returns-else-seq-eq1 g c =
    let ops = g.H.Held.ops c.args.held.now in
    let op = c.args.op.now in
    let stamp_is : (p : Operation) → Contains ops p → IsPredecessor p op → c.op_stamp.result ≡ p.stamp =
    λ p held is.
    let next = is.1 in
    let seq = c.seq-else-seq-eq1.ensures in
    c.op_stamp.ensures p held (is.0 ∙ sym c.site.ensures) (omega arith) in
    let own = c.stamp.ensures in (
      λ e later.
          let (p, held, is) = c.requires.follows later in
          let less = ltb-true _ _ e in
          let told = stamp_is p held is in
          (p, held, is, omega arith),
      λ above.
          let not_first = c.if-seq-eq1.false in
          let seq = c.seq.ensures in
          let counted = c.requires.new.counted in
          let later : 1 < op.seq = omega arith in
          let (p, held, is, less) = above later in
          let told = stamp_is p held is in
          lt-ltb _ _ (omega arith),
    )
