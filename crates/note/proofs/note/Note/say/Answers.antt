use Rattle.std.proofs.Common.{◌≡◌, ◌≢◌, ◌<◌, ℕ, List, length, slice_index_or, refl, sym, ap, subst, ◌∙◌, arith}
use Rattle.std.specs.Vec.{with_items}
use Rattle.std.proofs.lemmas.List.{with_items_is}
use Rattle.note_laws.specs.Note.{Saying}
use Rattle.note_entries.specs.Kept.{with_saying}
use Rattle.note_admission.specs.Growing.{IsReplaced, StaysAdmitted}
use Rattle.note_admission.specs.Standing.{AreChainsOf, ChainsSeen}
use Rattle.note_admission.proofs.Keeping.{on_err_from}
use Rattle.note.specs.Notes.{AreNumberedTexts, IsOfEntries, NoteSeen}
use Rattle.note.specs.Texts.{ArePairs, EachText, HasFollowed, IsSameText, IsTextOfNote, NoteText}
use Rattle.note.proofs.Lists.{heard_numbers, heard_places, numbers_stay, texts_expected, texts_heard, texts_unheard}
use Rattle.note.proofs.note.Note.say.Goals as goal

pub returns-in_err-expect-in-Some-clause-err : goal.returns-in_err-expect-in-Some-clause-err
returns-in_err-expect-in-Some-clause-err c =
    let x = c.self.inside in
    let value = c.deref_mut.ensures.value in
    let new = c.expect.new.texts in
    on_err_from c.from_residual-in_err-expect-in-Some.result (λ note entries of.
    let is = subst (λ (n : NoteSeen). IsOfEntries n note entries) (sym c.self.view_is) of in
    record {
      digest = is.digest;
      chains = is.chains;
      texts = subst (λ xs. EachText (λ k t. IsTextOfNote note entries t) xs) (sym (with_items_is x.texts new (c.expect.ensures.len ∙ c.deref_mut.ensures.len)))
          (texts_expected note entries x.texts.items new (c.expect.ensures.len ∙ ap (λ (xs : List NoteText). length xs) value) is.texts
          (subst (λ (xs : List NoteText). ArePairs (λ was t. StaysAdmitted was.admission t.admission × IsSameText was t) xs new)
          value c.expect.ensures.stays));
    })

pub invariant_of-self-in_err-lost-in-Some : goal.invariant_of-self-in_err-lost-in-Some
invariant_of-self-in_err-lost-in-Some c =
    let x = c.self.inside in
    let value = c.deref_mut.ensures.value in
    let new = c.expect.new.texts in
    let stays = subst (λ (xs : List NoteText). ArePairs (λ was t. StaysAdmitted was.admission t.admission × IsSameText was t) xs new)
    value c.expect.ensures.stays in
    subst AreNumberedTexts (sym (with_items_is x.texts new (c.expect.ensures.len ∙ c.deref_mut.ensures.len)))
    (numbers_stay x.texts.items new c.self.invariant (c.expect.ensures.len ∙ ap (λ (xs : List NoteText). length xs) value)
    (λ k d lt. (stays k d lt).1.0))

pub returns-in_err-lost-in-Some-clause-err : goal.returns-in_err-lost-in-Some-clause-err
returns-in_err-lost-in-Some-clause-err c =
    let x = c.self.inside in
    let value = c.deref_mut.ensures.value in
    let new = c.expect.new.texts in
    on_err_from c.from_residual-in_err-lost-in-Some.result (λ note entries of.
    let is = subst (λ (n : NoteSeen). IsOfEntries n note entries) (sym c.self.view_is) of in
    record {
      digest = is.digest;
      chains = subst (λ (ch : ChainsSeen). AreChainsOf ch note entries) (sym c.in_err-lost-in-Some.ensures.err) is.chains;
      texts = subst (λ xs. EachText (λ k t. IsTextOfNote note entries t) xs) (sym (with_items_is x.texts new (c.expect.ensures.len ∙ c.deref_mut.ensures.len)))
          (texts_expected note entries x.texts.items new (c.expect.ensures.len ∙ ap (λ (xs : List NoteText). length xs) value) is.texts
          (subst (λ (xs : List NoteText). ArePairs (λ was t. StaysAdmitted was.admission t.admission × IsSameText was t) xs new)
          value c.expect.ensures.stays));
    })

pub returns-in_ok-say-in-None-clause-ok : goal.returns-in_ok-say-in-None-clause-ok
returns-in_ok-say-in-None-clause-ok c = λ note entries told of.
    let x = c.self.inside in
    let is = subst (λ (n : NoteSeen). IsOfEntries n note entries) (sym c.self.view_is) of in
    let m = c.args.saying in
    let text = c.text.ensures ∙ ap (λ (s : Saying). s.op.text) c.saying.view_is in
    record {
      digest = is.digest;
      chains = c.in_ok-say-in-None.ensures.kept note entries told is.chains;
      texts = texts_unheard note entries x.texts.items x.texts.items refl is.texts m c.in_ok-say-in-None.field-0
          (c.in_ok-say-in-None.ensures.places note entries is.chains) c.self.invariant.numbers refl c.self.invariant.many
          (let past = c.in-None.ensures.none in omega arith);
    }

pub invariant_of-self-in-Some : goal.invariant_of-self-in-Some
invariant_of-self-in-Some c =
    let x = c.self.inside in
    let value = c.deref_mut.ensures.value in
    let mid = c.expect.new.texts in
    let new = c.note_message.new.texts in
    let len = c.expect.ensures.len ∙ c.deref_mut.ensures.len in
    let stays = subst (λ (xs : List NoteText). ArePairs (λ was t. StaysAdmitted was.admission t.admission × IsSameText was t) xs mid)
    value c.expect.ensures.stays in
    let now = c.deref_mut-in-Some.ensures.value ∙ with_items_is x.texts mid len in
    let numbered = numbers_stay x.texts.items mid c.self.invariant (c.expect.ensures.len ∙ ap (λ (xs : List NoteText). length xs) value)
    (λ k d lt. (stays k d lt).1.0) in
    subst AreNumberedTexts (sym (with_items_is (with_items x.texts mid) new (c.note_message.ensures.len ∙ c.deref_mut-in-Some.ensures.len)))
    (heard_numbers mid new numbered (c.note_message.ensures.len ∙ ap (λ (xs : List NoteText). length xs) now) c.in-Some.at
    c.site-site.result (IsReplaced c.in_ok-lost-in-Some.lost c.site-site.result c.seq-seq.result)
    (subst (λ (xs : List NoteText). (k : ℕ) (d : NoteText) → k ≢ c.in-Some.at → slice_index_or new k d ≡ slice_index_or xs k d) now
    c.note_message.ensures.others)
    (subst (λ (xs : List NoteText). (d : NoteText) → HasFollowed c.site-site.result (IsReplaced c.in_ok-lost-in-Some.lost c.site-site.result c.seq-seq.result)
    (slice_index_or xs c.in-Some.at d) (slice_index_or new c.in-Some.at d)) now c.note_message.ensures.own))

pub returns-in_ok-lost-in-Some-clause-ok : goal.returns-in_ok-lost-in-Some-clause-ok
returns-in_ok-lost-in-Some-clause-ok c = λ note entries told of.
    let x = c.self.inside in
    let is = subst (λ (n : NoteSeen). IsOfEntries n note entries) (sym c.self.view_is) of in
    let m = c.args.saying in
    let value = c.deref_mut.ensures.value in
    let mid = c.expect.new.texts in
    let new = c.note_message.new.texts in
    let len = c.expect.ensures.len ∙ c.deref_mut.ensures.len in
    let many = c.expect.ensures.len ∙ ap (λ (xs : List NoteText). length xs) value in
    let stays = subst (λ (xs : List NoteText). ArePairs (λ was t. StaysAdmitted was.admission t.admission × IsSameText was t) xs mid)
    value c.expect.ensures.stays in
    let now = c.deref_mut-in-Some.ensures.value ∙ with_items_is x.texts mid len in
    let numbered = numbers_stay x.texts.items mid c.self.invariant many (λ k d lt. (stays k d lt).1.0) in
    let expected = texts_expected note entries x.texts.items mid many is.texts stays in
    let lost = c.in_ok-lost-in-Some.lost in
    let (nth, below) = c.in-Some.ensures.some in
    let within : c.in-Some.at < length mid = let sixteen = numbered.many in omega arith in
    record {
      digest = is.digest;
      chains = c.in_ok-lost-in-Some.ensures.kept note entries told is.chains;
      texts = subst (λ xs. EachText (λ k t. IsTextOfNote note (with_saying entries m) t) xs)
          (sym (with_items_is (with_items x.texts mid) new (c.note_message.ensures.len ∙ c.deref_mut-in-Some.ensures.len)))
          (texts_heard note entries mid new (c.note_message.ensures.len ∙ ap (λ (xs : List NoteText). length xs) now) expected m lost
          (c.in_ok-lost-in-Some.ensures.places note entries is.chains) numbered.numbers c.in-Some.at c.site-site.result
          c.seq-seq.result within (nth ∙ (c.text.ensures ∙ ap (λ (s : Saying). s.op.text) c.saying.view_is))
          (c.site-site.ensures ∙ ap (λ (s : Saying). s.op.site) c.saying.view_is)
          (c.seq-seq.ensures ∙ ap (λ (s : Saying). s.op.seq) c.saying.view_is) c.in_ok-expect-in-Some.ensures.known
          (subst (λ (xs : List NoteText). (k : ℕ) (d : NoteText) → k ≢ c.in-Some.at → slice_index_or new k d ≡ slice_index_or xs k d)
          now c.note_message.ensures.others)
          (subst (λ (xs : List NoteText). (d : NoteText) → HasFollowed c.site-site.result (IsReplaced lost c.site-site.result c.seq-seq.result)
          (slice_index_or xs c.in-Some.at d) (slice_index_or new c.in-Some.at d)) now c.note_message.ensures.own));
    }

pub returns-in_ok-lost-in-Some-clause-place : goal.returns-in_ok-lost-in-Some-clause-place
returns-in_ok-lost-in-Some-clause-place c =
    let x = c.self.inside in
    let mid = c.expect.new.texts in
    let new = c.note_message.new.texts in
    let stays = subst (λ (xs : List NoteText). ArePairs (λ was t. StaysAdmitted was.admission t.admission × IsSameText was t) xs mid)
    c.deref_mut.ensures.value c.expect.ensures.stays in
    let now = c.deref_mut-in-Some.ensures.value
    ∙ with_items_is x.texts mid (c.expect.ensures.len ∙ c.deref_mut.ensures.len) in
    subst (λ (n : NoteSeen). ArePairs (λ was t. IsSameText was t) n.texts (with_items (with_items x.texts mid) new).items) c.self.view_is
    (subst (λ (xs : List NoteText). ArePairs (λ was t. IsSameText was t) x.texts.items xs)
    (sym (with_items_is (with_items x.texts mid) new (c.note_message.ensures.len ∙ c.deref_mut-in-Some.ensures.len)))
    (heard_places x.texts.items mid new (λ k d lt. (stays k d lt).1) c.in-Some.at c.site-site.result
    (IsReplaced c.in_ok-lost-in-Some.lost c.site-site.result c.seq-seq.result)
    (subst (λ (xs : List NoteText). (k : ℕ) (d : NoteText) → k ≢ c.in-Some.at → slice_index_or new k d ≡ slice_index_or xs k d) now
    c.note_message.ensures.others)
    (subst (λ (xs : List NoteText). (d : NoteText) → HasFollowed c.site-site.result (IsReplaced c.in_ok-lost-in-Some.lost c.site-site.result c.seq-seq.result)
    (slice_index_or xs c.in-Some.at d) (slice_index_or new c.in-Some.at d)) now c.note_message.ensures.own)))
