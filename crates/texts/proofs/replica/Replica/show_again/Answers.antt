use Rattle.std.proofs.Common.{◌≡◌, List, ◌∷◌, ◌++◌, [], length, inl, inr, None, refl, sym, ap, subst, ◌∙◌, arith}
use Rattle.std.specs.Prelude.{OnOk}
use Rattle.operations.specs.NameSet.{Range}
use Rattle.operations.specs.Operation.{restore}
use Rattle.operations.specs.Spelling.{spelling}
use Rattle.set_laws.specs.Verdict.{ready}
use Rattle.texts.specs.Edit.{own_op}
use Rattle.texts.specs.Outcome.{refusal_for}
use Rattle.texts.specs.Taking.{HasTaken, IsJudged}
use Rattle.texts.specs.TextState.{TextState}
use Rattle.texts.proofs.OwnChange.{restore_shows}
use Rattle.texts.proofs.Made.{made, not_made}
use Rattle.texts.proofs.replica.Replica.show_again.Goals as goal

pub returns-in-Some : goal.returns-in-Some
returns-in-Some c = (inl (c.in-Some.ensures.some (restore c.args.self.now.last_set) refl), refl, refl)

pub returns-in_err-names : goal.returns-in_err-names
returns-in_err-names c =
    let t = c.args.self.now in
    let allowed : refusal_for t (restore t.last_set) ≡ None = c.in_default.ensures.none (restore t.last_set) refl in
    not_made t (own_op t (restore t.last_set)) c.args.outbox.now c.from_residual.result c.in_err-names.field-0.0
    c.from_residual.ensures.1 (inr (c.in_err-names.ensures.errors, inl allowed))

pub make-requires-clause-allowed : goal.make-requires-clause-allowed
make-requires-clause-allowed c =
    let t = c.args.self.now in
    (restore t.last_set, c.in_default.ensures.none (restore t.last_set) refl)

pub make-requires-clause-valid : goal.make-requires-clause-valid
make-requires-clause-valid c =
    let t = c.args.self.now in
    let names_are : c.in_ok-names.names ≡ t.last_set = c.in_ok-names.ensures.ok ∙ ap (λ (t : TextState). t.last_set) c.self.view_is in
    c.lemma_may_be_named.ensures.some (omega (arith, c.requires.some, ap (length {A = Range}) names_are))

pub make-requires-clause-ready : goal.make-requires-clause-ready
make-requires-clause-ready c =
    let t = c.args.self.now in
    let plain = restore_shows t t.last_set c.lemma_is_text.ensures c.lemma_is_text.ensures.deleted in
    let names_are : c.in_ok-names.names ≡ t.last_set = c.in_ok-names.ensures.ok ∙ ap (λ (t : TextState). t.last_set) c.self.view_is in
    subst (λ (names : List Range). IsJudged t (own_op t (restore names)) ready) (sym names_are)
    (refl, plain.new, plain.ready)

pub returns : goal.returns
returns c =
    let t = c.args.self.now in
    let plain = restore_shows t t.last_set c.lemma_is_text.ensures c.lemma_is_text.ensures.deleted in
    let allowed : refusal_for t (restore t.last_set) ≡ None = c.in_default.ensures.none (restore t.last_set) refl in
    let names_are : c.in_ok-names.names ≡ t.last_set = c.in_ok-names.ensures.ok ∙ ap (λ (t : TextState). t.last_set) c.self.view_is in
    let sent = c.args.outbox.now in
    let ok = subst (λ (names : List Range). OnOk c.make.result (HasTaken t (own_op t (restore names)) c.make.new.self × (c.make.new.outbox ≡ sent ++ spelling (own_op t (restore names)) ∷ [])))
    names_are c.make.ensures.ok in
    made t (own_op t (restore t.last_set)) c.lemma_is_text.ensures refl plain.text
    c.make.result c.make.new.self sent c.make.new.outbox allowed ok c.make.ensures.errors c.make.ensures.err refl
