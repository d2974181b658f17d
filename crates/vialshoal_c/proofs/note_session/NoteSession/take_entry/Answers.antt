use Rattle.std.proofs.Common.{map, refl, subst}
use Rattle.vialshoal_c.specs.NoteFeeding.{TakesEntryOf}
use Rattle.vialshoal_c.specs.NoteState.{NoteState}
use Rattle.vialshoal_c.proofs.note_session.NoteSession.take_entry.Goals as goal

pub returns : goal.returns
returns c =
    let now : NoteState = record { note = c.add.new.self; told = map (λ v. v.items) c.self.inside.told.items } in
    subst (λ (s : NoteState). TakesEntryOf s c.args.head.now c.args.body.now c.number_of_done.result now) c.self.view_is (record {
      done = c.add.result;
      number_is = c.number_of_done.ensures;
      came = c.add.ensures.ok;
      malformed = c.add.ensures.malformed;
      part = c.add.ensures.err;
      errors = c.add.ensures.errors;
      told = refl;
    })
