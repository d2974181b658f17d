use Rattle.std.proofs.Common.{ℕ, subst}
use Rattle.note.specs.Editing.{SayAllLeft, numbered_text}
use Rattle.note.specs.Texts.{NoteText}
use Rattle.vialshoal_c.specs.NoteAsking.{SayOwn}
use Rattle.vialshoal_c.specs.NoteState.{NoteState}
use Rattle.vialshoal_c.proofs.NoteTexts.{number_is}
use Rattle.vialshoal_c.proofs.note_session.NoteSession.own_entries.Goals as goal

pub returns-in-Ok-clause-ok : goal.returns-in-Ok-clause-ok
returns-in-Ok-clause-ok c =
    let num = number_is c.args.text c.in-Some.number c.in-Some.ensures in
    let note = c.self.inside.note in
    let entries = c.in-Ok.entries.items in (
      num.1,
      subst (λ (s : NoteState). SayOwn s c.args.text c.args.author entries) c.self.view_is
          (subst (λ (k : ℕ). (d : NoteText) → SayAllLeft note.key c.args.author (numbered_text note k d) entries) num.0 c.in-Ok.ensures.all),
    )
