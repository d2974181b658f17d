use Rattle.std.proofs.Common.{◌≡◌, ◌<◌, ◌∷◌, ◌++◌, [], length, inl, cond, Some, None, Err, refl, sym, ap, subst}
use Rattle.std.proofs.Common.{◌∙◌, arith}
use Rattle.std.specs.Prelude.{OnOk, nat_lt}
use Rattle.std.proofs.lemmas.Bool.{lt-ltb}
use Rattle.looks.specs.Looks.{plain_looks}
use Rattle.looks.specs.declared.refusal.Refusal.TheVariants.{Scattered}
use Rattle.operations.specs.NameSet.{Range}
use Rattle.operations.specs.Operation.{OpKind, change_looks}
use Rattle.operations.specs.Spelling.{spelling}
use Rattle.operations.specs.declared.name_set.TheConstants.{MAX_RANGES}
use Rattle.set_laws.specs.Verdict.{ready}
use Rattle.texts.specs.Edit.{names_shown, own_op}
use Rattle.texts.specs.Laws.{IsOwnEdit, NamesStretch}
use Rattle.texts.specs.Order.{dress, with_selected}
use Rattle.texts.specs.Outcome.{refusal_for}
use Rattle.texts.specs.Taking.{HasTaken, IsJudged}
use Rattle.texts.specs.TextState.{TextState, shown_of}
use Rattle.texts.proofs.KeptStretch.{keeps_its_stretch}
use Rattle.texts.proofs.OwnStretch.{looks_are_plain}
use Rattle.texts.proofs.Made.{gathered_few, has_names, made, not_made, same_change, why_not_gathered}
use Rattle.texts.proofs.replica.Replica.dress_some.Goals as goal
use Rattle.texts.proofs.replica.Replica.dress_some.Goals.{After-lemma_is_text, After-lemma_may_be_named}

-- the change of looks that is made
abbrev change : After-lemma_is_text → OpKind
change c =
    change_looks c.args.sel (with_selected c.args.sel c.args.looks.now plain_looks)
    (names_shown c.args.self.now c.args.beg c.args.end)

-- the set that is named is that of the stretch
stretch_is : (c : After-lemma_is_text)
    → NamesStretch c.args.self.now (names_shown c.args.self.now c.args.beg c.args.end) c.args.beg c.args.end
stretch_is c = (keeps_its_stretch c.args.self.now c.args.beg c.args.end c.lemma_is_text.ensures).0

-- so the change is a plain edit
is_plain : (c : After-lemma_is_text)
    → IsOwnEdit c.args.self.now (change c)
    (dress c.args.sel (with_selected c.args.sel c.args.looks.now plain_looks) (shown_of c.args.self.now) c.args.beg
    c.args.end)
is_plain c =
    looks_are_plain c.args.self.now c.args.sel (with_selected c.args.sel c.args.looks.now plain_looks)
    (names_shown c.args.self.now c.args.beg c.args.end) c.args.beg c.args.end c.lemma_is_text.ensures
    (omega (arith, c.requires.some)) (stretch_is c)

-- the names that were gathered are its names, and they are few enough
names_are : (c : After-lemma_may_be_named) → c.in_ok-names.names ≡ names_shown c.args.self.now c.args.beg c.args.end
names_are c =
    c.in_ok-names.ensures.ok ∙ ap (λ (t : TextState). names_shown t c.args.beg c.args.end) c.self.view_is

is_allowed : (c : After-lemma_may_be_named)
    → refusal_for c.args.self.now (change_looks c.args.sel (with_selected c.args.sel c.args.looks.now plain_looks)
    (names_shown c.args.self.now c.args.beg c.args.end)) ≡ None
is_allowed c =
    let names = names_shown c.args.self.now c.args.beg c.args.end in
    let kind = change_looks c.args.sel (with_selected c.args.sel c.args.looks.now plain_looks) names in
    gathered_few c.args.self.now kind c.in_ok-names.names names (c.in_default.ensures.none kind refl) (names_are c)
    c.lemma_may_be_named.ensures.few

pub returns-in-Some : goal.returns-in-Some
returns-in-Some c =
    (inl (c.in-Some.ensures.some (change (goal.at.returns-in-Some c).After-lemma_is_text) refl), refl, refl)

pub returns-in_err-names : goal.returns-in_err-names
returns-in_err-names c =
    let t = c.args.self.now in
    let names = names_shown t c.args.beg c.args.end in
    let kind = change (goal.at.returns-in_err-names c).After-lemma_is_text in
    let scattered : refusal_for t kind ≡ cond (nat_lt MAX_RANGES (length names)) (Some Scattered) None =
    c.in_default.ensures.none kind refl in
    let why = c.in_err-names.field-0.0 in
    not_made t (own_op t kind) c.args.outbox.now c.from_residual.result why c.from_residual.ensures.1
    (why_not_gathered t (own_op t kind) (nat_lt MAX_RANGES (length names)) scattered why
    c.in_err-names.ensures.errors (λ is.
    lt-ltb _ _ (subst (λ (t : TextState). MAX_RANGES < length (names_shown t c.args.beg c.args.end)) c.self.view_is
    (c.in_err-names.ensures.scattered (ap Err is)))))

pub make-requires-clause-allowed : goal.make-requires-clause-allowed
make-requires-clause-allowed c =
    let at = goal.at.make-requires-clause-allowed c in
    (change (at.After-lemma_is_text), is_allowed (at.After-lemma_may_be_named))

pub make-requires-clause-valid : goal.make-requires-clause-valid
make-requires-clause-valid c =
    let at = goal.at.make-requires-clause-valid c in
    let t = c.args.self.now in
    let some = has_names t (names_shown t c.args.beg c.args.end) c.args.beg c.args.end (stretch_is at.After-lemma_is_text)
    c.requires.some c.requires.in_text in
    record {
      some = omega (arith, c.bits.ensures.value, c.bits.ensures.some);
      valid_looks = c.lemma_are_in_range.ensures;
      plain_elsewhere = c.selected-looks.ensures.elsewhere;
      named = c.lemma_may_be_named.ensures.some
          (omega (arith, some, ap (length {A = Range}) (names_are at.After-lemma_may_be_named)));
    }

pub make-requires-clause-ready : goal.make-requires-clause-ready
make-requires-clause-ready c =
    let at = goal.at.make-requires-clause-ready c in
    let plain = is_plain at.After-lemma_is_text in
    subst (λ (k : OpKind). IsJudged c.args.self.now (own_op c.args.self.now k) ready)
    (sym (same_change c.args.sel _ _ _ _ c.selected-looks.ensures.value (names_are at.After-lemma_may_be_named)))
    (refl, plain.new, plain.ready)

pub returns : goal.returns
returns c =
    let at = goal.at.returns c in
    let t = c.args.self.now in
    let sent = c.args.outbox.now in
    let ok = subst (λ (k : OpKind). OnOk c.make.result (HasTaken t (own_op t k) c.make.new.self
    × (c.make.new.outbox ≡ sent ++ spelling (own_op t k) ∷ [])))
    (same_change c.args.sel _ _ _ _ c.selected-looks.ensures.value (names_are at.After-lemma_may_be_named))
    c.make.ensures.ok in
    made t (own_op t (change at.After-lemma_is_text)) c.lemma_is_text.ensures refl
    (is_plain at.After-lemma_is_text).text c.make.result c.make.new.self sent c.make.new.outbox
    (is_allowed at.After-lemma_may_be_named) ok c.make.ensures.errors c.make.ensures.err refl
