use Rattle.std.proofs.Common.{ℕ, ◌≡◌, inl, inr, None, [], ap, sym, subst, ◌∙◌, arith}
use Rattle.std.specs.Prelude.{IfSome}
use Rattle.std.proofs.lemmas.Bool.{cases_Bool}
use Rattle.std.proofs.lemmas.Result.{IfOk-weaker}
use Rattle.chunks.specs.Chunks.{CanCome}
use Rattle.chunks.specs.Parts.{placed}
use Rattle.texts.specs.Fronts.{is_beyond}
use Rattle.tree_order.specs.Good.{file_before}
use Rattle.text_chunks.specs.Parts.{IsCutOn, told_in}
use Rattle.text_chunks.proofs.Packed.{IsPackedTo, all_packed, can_come, none_yet, one_beyond, one_up_to}
use Rattle.text_chunks.proofs.packing.pack.Goals as goal

pub loop-place-init : goal.loop-place-init
loop-place-init c =
    subst (IsPackedTo c.args.fronts.now c.args.replica.now.operations c.args.replica.now.text c.first_beyond-place.result)
    (sym (c.new-cutter.ensures ∙ ap (λ (text : ℕ). record { text = text; full = []; current = None }) c.text.ensures))
    (none_yet c.args.fronts.now c.args.replica.now.operations c.args.replica.now.text c.first_beyond-place.result
    c.first_beyond-place.ensures.before)

pub add_beyond-requires : goal.add_beyond-requires
add_beyond-requires c = λ b.
    let op = c.in_ok-op.op in
    let ops = c.args.replica.now.operations in
    let len : c.file_before.result ≡ file_before ops op.site op.seq =
    subst (λ o. IfSome o (λ x. c.file_before.result ≡ file_before ops x.site x.seq)) c.in_ok-op.ensures.ok c.file_before.ensures in
    subst (λ (n : ℕ). CanCome (told_in c.loop-place.cutter.current) c.loop-place.cutter.text (placed op n)) (sym len)
    (can_come c.args.fronts.now c.args.replica.now c.lemma_is_text.ensures c.lemma_are_taken_once.ensures
    c.lemma_have_spelling.ensures c.loop-place.place op c.in_ok-op.ensures.ok c.loop-place.cutter c.loop-place.invariant b)

pub loop-place-preserved : goal.loop-place-preserved
loop-place-preserved c =
    let op = c.in_ok-op.op in
    let ops = c.args.replica.now.operations in
    let len : c.file_before.result ≡ file_before ops op.site op.seq =
    subst (λ o. IfSome o (λ x. c.file_before.result ≡ file_before ops x.site x.seq)) c.in_ok-op.ensures.ok c.file_before.ensures in
    elim (cases_Bool (is_beyond c.args.fronts.now op)) [
      | inl b ↦
          one_beyond c.args.fronts.now c.args.replica.now c.lemma_is_text.ensures c.lemma_are_taken_once.ensures
          c.lemma_have_spelling.ensures c.loop-place.place op c.in_ok-op.ensures.ok c.loop-place.cutter
          c.loop-place.invariant c.add_beyond.new.cutter b
          (subst (λ (n : ℕ). IsCutOn c.loop-place.cutter (placed op n) c.add_beyond.new.cutter) len
          (c.in_ok-add_beyond.ensures.beyond b))
      | inr b ↦
          one_up_to c.args.fronts.now c.args.replica.now c.lemma_is_text.ensures c.lemma_are_taken_once.ensures
          c.lemma_have_spelling.ensures c.loop-place.place op c.in_ok-op.ensures.ok c.loop-place.cutter
          c.loop-place.invariant c.add_beyond.new.cutter b (c.in_ok-add_beyond.ensures.up_to b)
    ]

pub returns-clause-ok : goal.returns-clause-ok
returns-clause-ok c =
    IfOk-weaker c.finish.result _ _ (λ packed is.
    is ∙ all_packed c.args.fronts.now c.args.replica.now c.loop-place.place c.loop-place.cutter
    (omega (arith, c.loop-place-test.false, c.taken_len-place-end.ensures)) c.loop-place.invariant) c.finish.ensures.ok
