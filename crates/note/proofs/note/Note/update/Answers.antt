use Rattle.std.proofs.Common.{List, sym, ap, subst, ◌∙◌, length}
use Rattle.std.proofs.lemmas.List.{with_items_is}
use Rattle.note.specs.Notes.{IsOfEntries, NoteSeen}
use Rattle.note.specs.Texts.{ArePairs, EachText, HasAdmittedMore, IsTextOfNote, NoteText}
use Rattle.note.proofs.Lists.{texts_grown}
use Rattle.note.proofs.note.Note.update.Goals as goal

pub returns-clause-keeps : goal.returns-clause-keeps
returns-clause-keeps c = λ note entries of.
    let x = c.self.inside in
    let is = subst (λ (n : NoteSeen). IsOfEntries n note entries) (sym c.self.view_is) of in
    let value = c.deref_mut.ensures.value in
    record {
      digest = is.digest;
      chains = is.chains;
      texts = subst (λ xs. EachText (λ k t. IsTextOfNote note entries t) xs) (sym (with_items_is x.texts c.update.new.texts (c.update.ensures.len ∙ c.deref_mut.ensures.len))) (texts_grown note entries x.texts.items c.update.new.texts
          (c.update.ensures.len ∙ ap (λ (xs : List NoteText). length xs) value) is.texts x.key x.chains is.digest is.chains
          (subst (λ (xs : List NoteText). ArePairs (λ was t. HasAdmittedMore x.key x.chains was t) xs c.update.new.texts) value
          c.update.ensures.grown));
    }
