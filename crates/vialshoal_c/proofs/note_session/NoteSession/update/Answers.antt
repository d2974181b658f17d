use Rattle.std.proofs.Common.{map, refl, subst}
use Rattle.vialshoal_c.specs.NoteFeeding.{Updates}
use Rattle.vialshoal_c.specs.NoteState.{NoteState}
use Rattle.vialshoal_c.proofs.note_session.NoteSession.update.Goals as goal

pub returns : goal.returns
returns c =
    let now : NoteState = record { note = c.update.new.self; told = map (λ v. v.items) c.self.inside.told.items } in
    subst (λ (s : NoteState). Updates s c.number_of_done.result now) c.self.view_is (record {
      done = c.update.result;
      number_is = c.number_of_done.ensures;
      shows = c.update.ensures.ok;
      keeps = c.update.ensures.keeps;
      memory = c.update.ensures.errors;
      told = refl;
    })
