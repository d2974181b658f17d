use Rattle.std.proofs.Common.{◌≡◌, sym, ap, subst, ◌∙◌}
use Rattle.tree_order.specs.Tree.{IsChar}
use Rattle.texts.specs.Named.{changes_any}
use Rattle.texts.specs.TextState.{TextState}
use Rattle.texts.proofs.NamedEdits.{are_chars, any_is, none_by_names, sent_by_names}
use Rattle.texts.proofs.replica.Replica.edit_by_names.Goals as goal
use Rattle.texts.proofs.replica.Replica.edit_by_names.Goals.{After-has_any}

pub has_any-requires : goal.has_any-requires
has_any-requires c = λ name among.
    subst (λ (t : TextState). IsChar t.operations name) (sym c.self.view_is)
    (are_chars c.args.self.now c.lemma_is_text.ensures c.args.names.now c.requires.here name among)

-- whether something changes
any_changes : (c : After-has_any) → c.has_any.result ≡ changes_any c.args.self.now c.args.what c.args.names.now
any_changes c =
    c.has_any.ensures
    ∙ any_is c.args.self.now c.args.what c.args.names.now c.self.inside.taken.operations c.changes_shown.result
    (ap (λ (u : TextState). u.operations) c.self.view_is) c.changes_shown.ensures

pub returns-then-not-has_any : goal.returns-then-not-has_any
returns-then-not-has_any c =
    none_by_names c.args.self.now c.args.what c.args.names.now c.args.outbox.now
    (sym (any_changes ((goal.at.returns-then-not-has_any c).After-has_any)) ∙ c.if-not-has_any.true)

pub make_by_names-requires-clause-some : goal.make_by_names-requires-clause-some
make_by_names-requires-clause-some c =
    sym (any_changes ((goal.at.make_by_names-requires-clause-some c).After-has_any)) ∙ c.if-not-has_any.false

pub returns : goal.returns
returns c =
    rw c.answer_of_one.ensures (sent_by_names c.args.self.now c.args.what c.args.names.now c.make_by_names.result c.make_by_names.new.self
    c.args.outbox.now c.make_by_names.new.outbox (sym (any_changes ((goal.at.returns c).After-has_any)) ∙ c.if-not-has_any.false)
    c.make_by_names.ensures)
