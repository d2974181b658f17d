use Rattle.std.proofs.Common.{sym, subst, ◌∙◌}
use Rattle.texts.specs.TextState.{TextState}
use Rattle.note.specs.Editing.{FitsText}
use Rattle.vialshoal_c.proofs.NoteTexts.{numbered_is}
use Rattle.vialshoal_c.proofs.note_session.NoteSession.edit_range.Goals as goal

pub edit-requires-clause-fits : goal.edit-requires-clause-fits
edit-requires-clause-fits c = λ d.
    let t : TextState = c.in-Some-text.replica.now in
    subst (λ (u : TextState). FitsText c.args.edit.now u)
    (sym (numbered_is c.args.self.now.note c.args.text c.in-Some.number t d c.in-Some.ensures c.in-Some-text.ensures))
    (c.requires t (sym c.has_range.ensures ∙ c.if-not-has_range.false))
