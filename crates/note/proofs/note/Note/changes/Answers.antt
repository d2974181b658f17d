use Rattle.std.proofs.Common.{◌≡◌, ◌≢◌, ℕ, List, length, slice_index_or, sym, ap, subst, ◌∙◌}
use Rattle.std.specs.Option.{option_map}
use Rattle.std.proofs.lemmas.List.{with_items_is}
use Rattle.note.specs.Notes.{IsOfEntries, NoteSeen}
use Rattle.note.specs.Texts.{EachText, IsTextOfNote, NoteText, ReportsChanges}
use Rattle.note.proofs.Editing.{admissions_stay, texts_edited}
use Rattle.note.proofs.note.Note.changes.Goals as goal

pub returns-clause-keeps : goal.returns-clause-keeps
returns-clause-keeps c = λ note entries of.
    let x = c.self.inside in
    let is = subst (λ (n : NoteSeen). IsOfEntries n note entries) (sym c.self.view_is) of in
    let value = c.deref_mut.ensures.value in
    let new = c.changes.new.texts in
    let at = c.in-Some.at in
    record {
      digest = is.digest;
      chains = is.chains;
      texts = subst (λ xs. EachText (λ k t. IsTextOfNote note entries t) xs) (sym (with_items_is x.texts new (c.changes.ensures.len ∙ c.deref_mut.ensures.len)))
          (texts_edited note entries x.texts.items new (c.changes.ensures.len ∙ ap (λ (xs : List NoteText). length xs) value) is.texts
          (admissions_stay x.texts.items new at
          (subst (λ (xs : List NoteText). (k : ℕ) (d : NoteText) → k ≢ at → slice_index_or new k d ≡ slice_index_or xs k d) value c.changes.ensures.others)
          (λ d. ap (λ (t : NoteText). t.admission)
          (subst (λ (xs : List NoteText). ReportsChanges (slice_index_or xs at d) (option_map (λ changes. changes.items) c.changes.result) (slice_index_or new at d)) value (c.changes.ensures.own d)).0)));
    }
