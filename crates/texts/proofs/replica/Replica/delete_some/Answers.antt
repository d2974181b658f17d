use Rattle.std.proofs.Common.{◌≡◌, ◌<◌, ◌-◌, List, ◌∷◌, ◌++◌, [], length, inl, inr, cond, Some, None, Err, refl}
use Rattle.std.proofs.Common.{sym, ap, subst, ◌∙◌, arith}
use Rattle.std.specs.Prelude.{All, nat_lt, slice_range}
use Rattle.std.proofs.lemmas.Bool.{lt-ltb}
use Rattle.looks.specs.declared.refusal.Refusal.TheVariants.{OutOfMemory, Scattered}
use Rattle.char_files.specs.declared.TheConstants.{MAX_FILE}
use Rattle.operations.specs.NameSet.{Range}
use Rattle.operations.specs.Operation.{delete}
use Rattle.operations.specs.Spelling.{spelling}
use Rattle.operations.specs.declared.name_set.TheConstants.{MAX_RANGES}
use Rattle.set_laws.specs.Verdict.{ready}
use Rattle.texts.specs.Edit.{names_shown, own_op, stretch_named}
use Rattle.texts.specs.Laws.{IsOwnEdit, NamesStretch}
use Rattle.texts.specs.Order.{cut}
use Rattle.texts.specs.Outcome.{passes_file, refusal_for}
use Rattle.texts.specs.Taking.{HasTaken, IsJudged}
use Rattle.texts.specs.Text.{AreCharNames}
use Rattle.texts.specs.TextState.{TextState, shown_items, shown_of}
use Rattle.texts.proofs.KeptStretch.{keeps_its_stretch}
use Rattle.texts.proofs.OwnStretch.{delete_is_plain}
use Rattle.texts.proofs.Kept.{items_between, taken_is_own}
use Rattle.texts.proofs.Made.{fits_stretch, gathered_few, has_names, keeps_so_much, kept_by, kept_is, not_made}
use Rattle.texts.proofs.Made.{not_made_then, why_not_gathered}
use Rattle.texts.proofs.replica.Replica.delete_some.Goals as goal
use Rattle.texts.proofs.replica.Replica.delete_some.Goals.{After-lemma_is_text, After-lemma_may_be_named}

-- the set that is named is that of the stretch
stretch_is : (c : After-lemma_is_text)
    → NamesStretch c.args.self.now (names_shown c.args.self.now c.args.beg c.args.end) c.args.beg c.args.end
stretch_is c = (keeps_its_stretch c.args.self.now c.args.beg c.args.end c.lemma_is_text.ensures).0

-- so its Delete is a plain edit
is_plain : (c : After-lemma_is_text)
    → IsOwnEdit c.args.self.now (delete (names_shown c.args.self.now c.args.beg c.args.end))
    (cut (shown_of c.args.self.now) c.args.beg c.args.end)
is_plain c =
    delete_is_plain c.args.self.now (names_shown c.args.self.now c.args.beg c.args.end) c.args.beg
    c.args.end c.lemma_is_text.ensures (omega (arith, c.requires.some)) (stretch_is c)

file_is : (c : After-lemma_is_text)
    → passes_file c.args.self.now (delete (names_shown c.args.self.now c.args.beg c.args.end))
    ≡ nat_lt MAX_FILE (c.args.end - c.args.beg)
file_is c =
    keeps_so_much c.args.self.now c.lemma_is_text.ensures c.args.beg c.args.end
    c.requires.in_text

-- the names that were gathered are its names, and they are few enough
names_are : (c : After-lemma_may_be_named) → c.in_ok-names.names ≡ names_shown c.args.self.now c.args.beg c.args.end
names_are c =
    c.in_ok-names.ensures.ok ∙ ap (λ (t : TextState). names_shown t c.args.beg c.args.end) c.self.view_is

is_allowed : (c : After-lemma_may_be_named)
    → refusal_for c.args.self.now (delete (names_shown c.args.self.now c.args.beg c.args.end)) ≡ None
is_allowed c =
    let t = c.args.self.now in
    let names = names_shown t c.args.beg c.args.end in
    let file = keeps_so_much t c.lemma_is_text.ensures c.args.beg c.args.end
    c.requires.in_text in
    gathered_few t (delete names) c.in_ok-names.names names (c.in_default.ensures.none (delete names) file)
    (names_are c) c.lemma_may_be_named.ensures.few

pub returns-in-Some : goal.returns-in-Some
returns-in-Some c =
    let names = names_shown c.args.self.now c.args.beg c.args.end in
    (inl (c.in-Some.ensures.some (delete names) (file_is (goal.at.returns-in-Some c).After-lemma_is_text)), refl, refl)

pub returns-in_err-stretch : goal.returns-in_err-stretch
returns-in_err-stretch c =
    let t = c.args.self.now in
    let names = names_shown t c.args.beg c.args.end in
    let kind = delete names in
    let file = file_is (goal.at.returns-in_err-stretch c).After-lemma_is_text in
    let scattered : refusal_for t kind ≡ cond (nat_lt MAX_RANGES (length names)) (Some Scattered) None =
    c.in_default.ensures.none kind file in
    let why = c.in_err-stretch.field-0.0 in
    let short : MAX_FILE < c.args.end - c.args.beg → ⊥ =
    λ long. fits_stretch t kind (c.args.end - c.args.beg) names scattered file long in
    not_made t (own_op t kind) c.args.outbox.now c.from_residual-in_err-stretch.result why
    c.from_residual-in_err-stretch.ensures.1 (elim c.in_err-stretch.ensures.errors [
      | inl is ↦ absurd (short (c.in_err-stretch.ensures.long.0 (ap Err is)))
      | inr is ↦
          why_not_gathered t (own_op t kind) (nat_lt MAX_RANGES (length names)) scattered why (inr is)
          (λ e. let no : Scattered ≡ OutOfMemory = sym e ∙ is in absurd cc)
    ])

pub returns-in_err-names : goal.returns-in_err-names
returns-in_err-names c =
    let t = c.args.self.now in
    let names = names_shown t c.args.beg c.args.end in
    let kind = delete names in
    let scattered : refusal_for t kind ≡ cond (nat_lt MAX_RANGES (length names)) (Some Scattered) None =
    c.in_default.ensures.none kind (file_is (goal.at.returns-in_err-names c).After-lemma_is_text) in
    let why = c.in_err-names.field-0.0 in
    not_made t (own_op t kind) c.args.outbox.now c.from_residual.result why c.from_residual.ensures.1
    (why_not_gathered t (own_op t kind) (nat_lt MAX_RANGES (length names)) scattered why
    c.in_err-names.ensures.errors (λ is.
    lt-ltb _ _ (subst (λ (t : TextState). MAX_RANGES < length (names_shown t c.args.beg c.args.end)) c.self.view_is
    (c.in_err-names.ensures.scattered (ap Err is)))))

pub returns-in_err-set : goal.returns-in_err-set
returns-in_err-set c =
    let t = c.args.self.now in
    not_made t (own_op t (delete (names_shown t c.args.beg c.args.end))) c.args.outbox.now
    c.from_residual-in_err-set.result c.in_err-set.field-0.0 c.from_residual-in_err-set.ensures.1
    (inr (c.in_err-set.ensures.errors, inl (is_allowed (goal.at.returns-in_err-set c).After-lemma_may_be_named)))

pub make-requires-clause-allowed : goal.make-requires-clause-allowed
make-requires-clause-allowed c =
    (delete (names_shown c.args.self.now c.args.beg c.args.end), is_allowed ((goal.at.make-requires-clause-allowed c).After-lemma_may_be_named))

pub make-requires-clause-valid : goal.make-requires-clause-valid
make-requires-clause-valid c =
    let at = goal.at.make-requires-clause-valid c in
    let t = c.args.self.now in
    let some = has_names t (names_shown t c.args.beg c.args.end) c.args.beg c.args.end (stretch_is at.After-lemma_is_text)
    c.requires.some c.requires.in_text in
    c.lemma_may_be_named.ensures.some (omega (arith, some, ap (length {A = Range}) (names_are at.After-lemma_may_be_named)))

pub make-requires-clause-ready : goal.make-requires-clause-ready
make-requires-clause-ready c =
    let at = goal.at.make-requires-clause-ready c in
    let plain = is_plain at.After-lemma_is_text in
    subst (λ (ns : List Range). IsJudged c.args.self.now (own_op c.args.self.now (delete ns)) ready)
    (sym (names_are at.After-lemma_may_be_named)) (refl, plain.new, plain.ready)

pub returns-in_err-make : goal.returns-in_err-make
returns-in_err-make c =
    let t = c.args.self.now in
    not_made_then t (own_op t (delete (names_shown t c.args.beg c.args.end))) c.make.new.self c.args.outbox.now
    c.make.new.outbox c.from_residual-in_err-make.result c.in_err-make.field-0.0 c.from_residual-in_err-make.ensures.1
    (inr (c.in_err-make.ensures.errors, inl (is_allowed (goal.at.returns-in_err-make c).After-lemma_may_be_named)))
    c.in_err-make.ensures.err

pub invariant_of-self : goal.invariant_of-self
invariant_of-self c =
    let at = goal.at.invariant_of-self c in
    let t = c.args.self.now in
    let names = names_shown t c.args.beg c.args.end in
    let same = names_are at.After-lemma_may_be_named in
    let taken = subst (λ (ns : List Range). HasTaken t (own_op t (delete ns)) c.make.new.self) same
    c.in_ok-make.ensures.ok.0 in
    let u = c.make.new.self in
    let set_is : c.in_ok-set.set ≡ names = c.in_ok-set.ensures.ok ∙ same in
    let kept : AreCharNames u.operations names = kept_by t u names (is_plain at.After-lemma_is_text).text taken in
    let inside : All (λ op. op.text ≡ u.text) u.operations × All (λ op. op.text ≡ u.text) u.waiting_room
    × AreCharNames u.operations c.in_ok-set.set =
    (taken.is.of_text, taken.is.waiting.of_text, subst (AreCharNames u.operations) (sym set_is) kept) in
    subst (λ (x : TextState). All (λ op. op.text ≡ x.text) x.operations × All (λ op. op.text ≡ x.text) x.waiting_room
    × AreCharNames x.operations c.in_ok-set.set) (sym c.self-2.view_is) inside

pub returns : goal.returns
returns c =
    let at = goal.at.returns c in
    let t = c.args.self.now in
    let names = names_shown t c.args.beg c.args.end in
    let same = names_are at.After-lemma_may_be_named in
    let taken = subst (λ (ns : List Range). HasTaken t (own_op t (delete ns)) c.make.new.self) same
    c.in_ok-make.ensures.ok.0 in
    let own = taken_is_own t (own_op t (delete names)) c.lemma_is_text.ensures refl
    (is_plain at.After-lemma_is_text).text c.make.new.self taken in
    let stretch : c.in_ok-stretch.stretch ≡ stretch_named t names =
    c.in_ok-stretch.ensures.ok ∙ items_between _ c.args.beg c.args.end
    ∙ ap (λ (x : TextState). slice_range (shown_items x) c.args.beg c.args.end) c.self.view_is
    ∙ sym (keeps_its_stretch t c.args.beg c.args.end c.lemma_is_text.ensures).1 in
    let sent = c.args.outbox.now in
    let told = subst (λ (ns : List Range). c.make.new.outbox ≡ sent ++ spelling (own_op t (delete ns)) ∷ []) same
    c.in_ok-make.ensures.ok.1 in
    let set_is : c.in_ok-set.set ≡ names = c.in_ok-set.ensures.ok ∙ same in (
      is_allowed at.After-lemma_may_be_named,
      ap (λ (x : TextState). record x { last_stretch = c.in_ok-stretch.stretch; last_set = c.in_ok-set.set })
          c.self-2.view_is
          ∙ kept_is t c.make.new.self names c.in_ok-set.set c.in_ok-stretch.stretch own stretch set_is,
      told,
    )
