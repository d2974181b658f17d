use Rattle.std.proofs.Common.{◌≡◌, ℕ, true, false, Result, refl, sym, subst, ◌∙◌}
use Rattle.std.proofs.lemmas.Bool.{cond-false, cond-true, false_from_ne_true, false≢true}
use Rattle.operations.specs.Operation.{restore}
use Rattle.tree_order.specs.Shown.{is_visible}
use Rattle.texts.specs.Edit.{is_restored, own_op, restoration}
use Rattle.texts.specs.Outcome.{EditsSending}
use Rattle.texts.specs.TextState.{TextState}
use Rattle.texts.specs.declared.edit_refusal.EditRefusal.{EditRefusal}
use Rattle.texts.proofs.AllPass.{all_pass, each_passes}
use Rattle.texts.proofs.Sending.{none_sent, one_sent}
use Rattle.texts.proofs.replica.Replica.restore.Goals as goal

pub returns-then-are_shown : goal.returns-then-are_shown
returns-then-are_shown c =
    let t = c.args.self.now in
    let r = c.self.inside in
    let each = c.are_shown.ensures.0 c.if-are_shown.true in
    let restored : is_restored t ≡ true =
    subst (λ (t : TextState). is_restored t ≡ true) c.self.view_is (all_pass (is_visible r.taken.operations) r.set each) in
    none_sent t restoration c.lemma_is_text.ensures refl c.args.outbox.now (cond-true _ _ _ restored)

pub returns : goal.returns
returns c =
    let t = c.args.self.now in
    let r = c.self.inside in
    let view = c.self.view_is in
    let hidden : is_restored t ≡ false = false_from_ne_true (is_restored t) (λ all.
    let each = each_passes (is_visible r.taken.operations) r.set (subst (λ (t : TextState). is_restored t ≡ true) (sym view) all) in
    false≢true (sym c.if-are_shown.false ∙ c.are_shown.ensures.1 each)) in
    subst (λ (a : Result ℕ EditRefusal). EditsSending t restoration a c.show_again.new.self c.args.outbox.now c.show_again.new.outbox)
    (sym c.answer_of_one.ensures)
    (one_sent t restoration c.lemma_is_text.ensures refl c.args.outbox.now (own_op t (restore t.last_set))
    (cond-false _ _ _ hidden) c.show_again.result c.show_again.new.self c.show_again.new.outbox c.show_again.ensures)
