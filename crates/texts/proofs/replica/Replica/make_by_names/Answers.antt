use Rattle.std.proofs.Common.{◌≡◌, ◌<◌, ℕ, ◌∷◌, ◌++◌, [], List, length, inl, None, Err, refl, sym, ap, subst, ◌∙◌, arith}
use Rattle.std.specs.Prelude.{OnOk}
use Rattle.operations.specs.NameSet.{IsNamed, Range}
use Rattle.operations.specs.Operation.{OpKind}
use Rattle.operations.specs.Spelling.{IsKind, spelling}
use Rattle.operations.specs.declared.name_set.TheConstants.{MAX_RANGES}
use Rattle.set_laws.specs.Verdict.{ready}
use Rattle.tree_order.specs.Tree.{IsChar}
use Rattle.texts.specs.Edit.{own_op}
use Rattle.texts.specs.Named.{kind_by_names, names_changed, refusal_of_names}
use Rattle.texts.specs.Taking.{HasTaken, IsJudged}
use Rattle.texts.specs.TextState.{TextState}
use Rattle.texts.specs.declared.by_names.ByNames.{ByNames}
use Rattle.texts.specs.declared.by_names.ByNames.TheVariants.{Delete, Restore}
use Rattle.texts.proofs.Made.{gathered_few}
use Rattle.texts.proofs.NamedEdits.{are_chars, changed_are, is_judged, made_by_names, naming, not_gathered, not_made_by_names, some_changed}
use Rattle.texts.proofs.replica.Replica.make_by_names.Goals as goal
use Rattle.texts.proofs.replica.Replica.make_by_names.Goals.{After-lemma_may_be_named, In_ok-changed}

pub returns-in-Some : goal.returns-in-Some
returns-in-Some c =
    (inl (c.in-Some.ensures.some (naming (names_changed c.args.self.now c.args.what c.args.names.now)) refl), refl, refl)

pub names_with-requires : goal.names_with-requires
names_with-requires c = λ name among.
    subst (λ (t : TextState). IsChar t.operations name) (sym c.self.view_is)
    (are_chars c.args.self.now c.lemma_is_text.ensures c.args.names.now c.requires.here name among)

pub returns-in_err-changed : goal.returns-in_err-changed
returns-in_err-changed c =
    let t = c.args.self.now in
    let names = names_changed t c.args.what c.args.names.now in
    let why = c.in_err-changed.field-0.0 in
    not_made_by_names t c.args.what c.args.names.now c.from_residual.result c.args.outbox.now why c.from_residual.ensures.1
    (not_gathered t c.args.what c.args.names.now (c.in_default.ensures.none (naming names) refl) why c.in_err-changed.ensures.errors (λ is.
    subst (λ (ranges : List Range). MAX_RANGES < length ranges) (changed_are t c.args.what c.args.names.now
    c.self.inside.taken.operations c.changes_shown.result (ap (λ (u : TextState). u.operations) c.self.view_is) c.changes_shown.ensures)
    (c.in_err-changed.ensures.scattered (ap Err is))))

-- the names that were gathered are those that change
names_are : (c : In_ok-changed) → c.in_ok-changed.changed ≡ names_changed c.args.self.now c.args.what c.args.names.now
names_are c =
    c.in_ok-changed.ensures.ok
    ∙ changed_are c.args.self.now c.args.what c.args.names.now c.self.inside.taken.operations c.changes_shown.result
    (ap (λ (u : TextState). u.operations) c.self.view_is) c.changes_shown.ensures

is_allowed : (c : After-lemma_may_be_named) → c.in_ok-changed.changed ≡ names_changed c.args.self.now c.args.what c.args.names.now
    → refusal_of_names c.args.self.now (names_changed c.args.self.now c.args.what c.args.names.now) ≡ None
is_allowed c same =
    let t = c.args.self.now in
    let names = names_changed t c.args.what c.args.names.now in
    gathered_few t (naming names) c.in_ok-changed.changed names (c.in_default.ensures.none (naming names) refl) same
    c.lemma_may_be_named.ensures.few

pub make-requires-clause-allowed : goal.make-requires-clause-allowed
make-requires-clause-allowed c =
    let at = goal.at.make-requires-clause-allowed c in
    (naming (names_changed c.args.self.now c.args.what c.args.names.now), is_allowed (at.After-lemma_may_be_named) (names_are (at.In_ok-changed)))

-- a kind that names these is one that a message may tell
valid_kind : (site : ℕ) (what : ByNames) (names : List Range) → IsNamed names → IsKind site (kind_by_names what names)
valid_kind site Delete names named = named
valid_kind site Restore names named = named

pub make-requires-clause-valid : goal.make-requires-clause-valid
make-requires-clause-valid c =
    let at = goal.at.make-requires-clause-valid c in
    let t = c.args.self.now in
    let same = names_are (at.In_ok-changed) in
    let some = some_changed t c.args.what c.args.names.now c.requires.some in
    subst (IsKind t.site) (sym (c.kind.ensures ∙ ap (kind_by_names c.args.what) same)) (valid_kind t.site c.args.what (names_changed t c.args.what c.args.names.now)
    (subst IsNamed same (c.lemma_may_be_named.ensures.some (omega (arith, some, ap (length {A = Range}) same)))))

pub make-requires-clause-ready : goal.make-requires-clause-ready
make-requires-clause-ready c =
    let t = c.args.self.now in
    let same = names_are ((goal.at.make-requires-clause-ready c).In_ok-changed) in
    subst (λ (kind : OpKind). IsJudged t (own_op t kind) ready) (sym (c.kind.ensures ∙ ap (kind_by_names c.args.what) same))
    (is_judged t c.args.what c.args.names.now c.lemma_is_text.ensures c.requires.here)

pub returns : goal.returns
returns c =
    let at = goal.at.returns c in
    let t = c.args.self.now in
    let sent = c.args.outbox.now in
    let same = names_are (at.In_ok-changed) in
    made_by_names t c.args.what c.args.names.now c.make.result c.make.new.self sent c.make.new.outbox (is_allowed (at.After-lemma_may_be_named) same)
    (subst (λ (kind : OpKind). OnOk c.make.result (HasTaken t (own_op t kind) c.make.new.self × (c.make.new.outbox ≡ sent ++ spelling (own_op t kind) ∷ [])))
    (c.kind.ensures ∙ ap (kind_by_names c.args.what) same) c.make.ensures.ok)
    c.make.ensures.errors c.make.ensures.err
