use Rattle.std.proofs.Common.{◌≡◌, ◌<◌, Contains, sym, ◌∙◌, arith, eq-eqb}
use Rattle.std.proofs.lemmas.Bool.{ltb-true, lt-ltb}
use Rattle.operations.specs.Operation.{Operation}
use Rattle.tree_order.specs.Good.{IsPredecessor}
use Rattle.note_admission.proofs.fate.is_above_previous.Goals as goal

pub returns-then-seq-eq1 : goal.returns-then-seq-eq1
returns-then-seq-eq1 c = (
  λ e p held is.
      let counted = c.lemma_are_held_to_the_front.ensures.identified.counted p held in
      let next = is.1 in
      let seq = c.seq.ensures in
      let first = c.if-seq-eq1.true in
      absurd (omega arith),
  λ above. eq-eqb _ _ c.if-seq-eq1.true,
)

pub returns-else-seq-eq1 : goal.returns-else-seq-eq1
returns-else-seq-eq1 c =
    let ops = c.args.log.now.ops in
    let op = c.args.op.now in
    let stamp_is : (p : Operation) → Contains ops p → IsPredecessor p op → c.op_stamp.result ≡ p.stamp =
    λ p held is.
    let next = is.1 in
    let seq = c.seq-else-seq-eq1.ensures in
    c.op_stamp.ensures p held (is.0 ∙ sym c.site.ensures) (omega arith) in
    let own = c.stamp.ensures in (
      λ e p held is.
          let less = ltb-true _ _ e in
          let told = stamp_is p held is in
          omega arith,
      λ above.
          let not_first = c.if-seq-eq1.false in
          let seq = c.seq.ensures in
          let counted = c.requires.new.counted in
          let later : 1 < op.seq = omega arith in
          let (p, held, is) = c.requires.follows later in
          let less = above p held is in
          let told = stamp_is p held is in
          lt-ltb _ _ (omega arith),
    )
