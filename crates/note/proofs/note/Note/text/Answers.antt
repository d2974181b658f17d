use Rattle.std.proofs.Common.{◌≡◌, ◌-◌, ◌<◌, ℕ, List, length, slice_index_or, sym, ap, subst, ◌∙◌, arith}
use Rattle.operations.specs.Operation.{Operation}
use Rattle.texts.specs.TextState.{TextState}
use Rattle.note_laws.specs.Admission.{IsAdmission}
use Rattle.note_admission.proofs.Expecting.{whole_if_settled}
use Rattle.note_replicas.specs.Following.{HasTakenJust}
use Rattle.note.specs.Notes.{IsOfEntries, NoteSeen, ShowsWhatCounts}
use Rattle.note.specs.Texts.{IsTextOfNote, IsUpToDate, NoteText}
use Rattle.note.proofs.Editing.{numbered}
use Rattle.note.proofs.note.Note.text.Goals as goal

pub returns-clause-some : goal.returns-clause-some
returns-clause-some c = λ note entries of shows.
    let x = c.self.inside in
    let at = c.in_ok-place.field-0 in
    let t = c.index.result.now in
    let r = c.replica-replica.result.now in
    let is = subst (λ (n : NoteSeen). IsOfEntries n note entries) (sym c.self.view_is) of in
    let here = subst ShowsWhatCounts (sym c.self.view_is) shows in
    let many = c.self.invariant.many in
    let place = c.in_ok-place.ensures.some.1 in
    let lt : at < length x.texts.items = omega arith in
    let (admitted, its) = subst (λ (u : NoteText). IsTextOfNote note entries u) (sym c.index.ensures) (is.texts at t lt) in
    let whole = subst IsUpToDate (sym c.index.ensures) (here at t lt) in
    c.lemma_what_was_admitted_was_taken.ensures note entries r admitted c.lemma_is_text.ensures
    (subst (λ (n : ℕ). IsAdmission note entries n admitted) (sym c.replica-replica.ensures.text)
    (whole_if_settled t.admission whole.settled note entries admitted its))
    (subst (λ (ops : List Operation). HasTakenJust r ops) (sym its.taken.logged)
    (subst (λ (u : TextState). HasTakenJust u t.admission.ops) (sym c.replica-replica.ensures.value) whole.taken))

pub returns-clause-alike : goal.returns-clause-alike
returns-clause-alike c = λ note entries others other is same of took.
    let chains = is.of.chains in
    c.lemma_the_same_entries_show_the_same.ensures note entries others c.replica-replica.result.now other chains.identified
    chains.told same of (returns-clause-some c note entries is.of is.shows) took

pub returns-clause-defined : goal.returns-clause-defined
returns-clause-defined c = λ note entries admitted is admission.
    let chains = is.of.chains in
    c.lemma_what_counts_is_shown.ensures note entries c.replica-replica.result.now admitted chains.identified chains.told
    (returns-clause-some c note entries is.of is.shows) admission

pub returns-clause-gains : goal.returns-clause-gains
returns-clause-gains c = λ note fewer entries was is adds of took.
    let chains = is.of.chains in
    c.lemma_more_entries_only_add.ensures note fewer entries was c.replica-replica.result.now chains.identified chains.told
    adds of took (returns-clause-some c note entries is.of is.shows)

pub returns-clause-number : goal.returns-clause-number
returns-clause-number c =
    let at = c.in_ok-place.field-0 in
    let t = c.index.result.now in
    let many = c.self.invariant.many in
    let (number, place) = c.in_ok-place.ensures.some in
    let lt : at < length c.self.inside.texts.items = omega arith in
    c.replica-replica.ensures.text ∙ (ap (λ (u : NoteText). u.admission.text) c.index.ensures
    ∙ (c.self.invariant.numbers at t lt ∙ number))

pub returns-clause-value : goal.returns-clause-value
returns-clause-value c = λ d.
    let texts = c.self.inside.texts.items in
    let at = c.in_ok-place.field-0 in
    let t = c.index.result.now in
    let many = c.self.invariant.many in
    let (nth, below) = c.in_ok-place.ensures.some in
    let lt : at < length texts = omega arith in
    let same = subst (λ (n : NoteSeen). slice_index_or n.texts (c.args.text - 1) d ≡ t) c.self.view_is
    (numbered texts c.args.text at d t nth lt c.index.ensures) in
    ap (λ (u : NoteText). u.replica) same ∙ sym c.replica-replica.ensures.value
