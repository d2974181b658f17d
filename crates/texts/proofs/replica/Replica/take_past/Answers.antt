use Rattle.std.proofs.Common.{◌≡◌, ◌+◌, false, subst, sym, ◌∙◌, arith}
use Rattle.std.proofs.lemmas.Bool.{false≢true}
use Rattle.texts.specs.Text.{IsText}
use Rattle.texts.specs.TextState.{TextState}
use Rattle.texts.proofs.Pasts.{IsPastTo, begun, finished, is_judged, is_new, one_passed, one_taken}
use Rattle.texts.proofs.replica.Replica.take_past.Goals as goal
use Rattle.texts.proofs.replica.Replica.take_past.Goals.{then-is_due+in_ok-take_over, else-is_due+in-ChangeLooks-1}
use Rattle.texts.proofs.replica.Replica.take_past.Goals.{else-is_due+in-Delete-1, else-is_due+in-Insert-1}
use Rattle.texts.proofs.replica.Replica.take_past.Goals.{else-is_due+in-Restore-1}

pub loop-place-init : goal.loop-place-init
loop-place-init c =
    subst (λ (t : TextState). IsPastTo c.args.other.now c.args.fronts.now 0 t) (sym c.requires)
    (begun c.args.other.now c.args.fronts.now c.lemma_is_text-2.ensures c.lemma_are_taken_once.ensures
    (subst IsText c.requires c.lemma_is_text.ensures))

pub is_due-requires : goal.is_due-requires
is_due-requires c = is_new c.loop-place.invariant c.in_ok-op.ensures.ok

pub take_over-requires : goal.take_over-requires
take_over-requires c =
    is_judged c.loop-place.invariant c.in_ok-op.ensures.ok ((c.is_due.ensures.0 c.if-is_due.true).1)

pub loop-place-preserved : goal.loop-place-preserved
loop-place-preserved c =
    let at = c.in_ok-op.ensures.ok in
    let passed : c.is_due.result ≡ false
    → IsPastTo c.args.other.now c.args.fronts.now (c.loop-place.place + 1) c.loop-place.self =
    λ not. one_passed c.loop-place.invariant at (λ due. false≢true (sym not ∙ c.is_due.ensures.1 due)) in
    elim c.if-is_due.branch [
      | then-is_due+in_ok-take_over w ↦
          rw w.self-is (one_taken c.loop-place.invariant at w.take_over.new.self (c.is_due.ensures.0 w.if-is_due.true)
          w.in_ok-take_over.ensures.ok)
      | else-is_due+in-Delete-1 w ↦ rw w.self-is (passed w.if-is_due.false)
      | else-is_due+in-Insert-1 w ↦ rw w.self-is (passed w.if-is_due.false)
      | else-is_due+in-Restore-1 w ↦ rw w.self-is (passed w.if-is_due.false)
      | else-is_due+in-ChangeLooks-1 w ↦ rw w.self-is (passed w.if-is_due.false)
    ]

pub returns-clause-ok : goal.returns-clause-ok
returns-clause-ok c =
    finished c.loop-place.invariant (omega (arith, c.taken_len-place-end.ensures, c.loop-place-test.false))
