use Rattle.std.proofs.Common.{List, sym, ap, subst, ◌∙◌, length}
use Rattle.note_laws.specs.Note.{Claim}
use Rattle.note_entries.specs.Kept.{with_claim}
use Rattle.note_admission.specs.Growing.{IsOfLost}
use Rattle.std.proofs.lemmas.List.{with_items_is}
use Rattle.note.specs.Notes.{IsOfEntries, NoteSeen}
use Rattle.note.specs.Texts.{ArePairs, EachText, HasFollowed, IsTextOfNote, NoteText}
use Rattle.note.proofs.Lists.{texts_claimed}
use Rattle.note.proofs.note.Note.claim.Goals as goal

pub returns-clause-ok : goal.returns-clause-ok
returns-clause-ok c = λ note entries told of.
    let x = c.self.inside in
    let is = subst (λ (n : NoteSeen). IsOfEntries n note entries) (sym c.self.view_is) of in
    let value = c.deref_mut.ensures.value in
    let site = c.claim-2.inside.site in
    let lost = c.in_ok-lost.lost in
    record {
      digest = is.digest;
      chains = c.in_ok-lost.ensures.kept note entries told is.chains;
      texts = subst (λ xs. EachText (λ k t. IsTextOfNote note (with_claim entries c.args.claim) t) xs)
          (sym (with_items_is x.texts c.note_claim.new.texts (c.note_claim.ensures.len ∙ c.deref_mut.ensures.len))) (texts_claimed note entries x.texts.items c.note_claim.new.texts
          (c.note_claim.ensures.len ∙ ap (λ (xs : List NoteText). length xs) value) is.texts c.args.claim lost site
          (ap (λ (claim : Claim). claim.site) c.claim-2.view_is) (c.in_ok-lost.ensures.places note entries told is.chains)
          (subst (λ (xs : List NoteText). ArePairs (λ was t. HasFollowed site (IsOfLost lost site) was t) xs c.note_claim.new.texts)
          value c.note_claim.ensures.follows));
    }
