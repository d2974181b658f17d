use Rattle.std.proofs.Common.{ℕ, List, map, refl, subst}
use Rattle.note.specs.Editing.{HasEditedText, numbered_text}
use Rattle.vialshoal_c.specs.NoteEditing.{EditsNoteText}
use Rattle.vialshoal_c.specs.NoteState.{NoteState}
use Rattle.vialshoal_c.proofs.note_session.NoteSession.edit.Goals as goal

pub returns : goal.returns
returns c =
    let now : NoteState = record { note = c.edit.new.self; told = map (λ v. v.items) c.self.inside.told.items } in
    subst (λ (s : NoteState). EditsNoteText s c.args.text c.args.edit.now c.of.result.number c.of.result.sent now) c.self.view_is
    (record {
      answer = c.edit.result;
      messages = c.edit.new.outbox;
      own = λ d. subst (λ (sent : List (List ℕ)). HasEditedText c.args.edit.now (numbered_text c.self.inside.note c.args.text d)
          c.edit.result (numbered_text c.edit.new.self c.args.text d) sent c.edit.new.outbox) c.new-outbox.ensures (c.edit.ensures.own d);
      rest = c.edit.ensures.rest;
      keeps = c.edit.ensures.keeps;
      number_is = c.of.ensures.0;
      sent_is = c.of.ensures.1;
      told = refl;
    })
