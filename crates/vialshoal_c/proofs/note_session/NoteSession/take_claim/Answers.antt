use Rattle.std.proofs.Common.{map, refl, subst}
use Rattle.vialshoal_c.specs.NoteFeeding.{TakesClaimOf}
use Rattle.vialshoal_c.specs.NoteState.{NoteState}
use Rattle.vialshoal_c.proofs.note_session.NoteSession.take_claim.Goals as goal

pub returns : goal.returns
returns c =
    let now : NoteState = record { note = c.claim.new.self; told = map (λ v. v.items) c.self.inside.told.items } in
    subst (λ (s : NoteState). TakesClaimOf s c.args.claim c.number_of_done.result now) c.self.view_is (record {
      done = c.claim.result;
      number_is = c.number_of_done.ensures;
      came = c.claim.ensures.ok;
      stays = c.claim.ensures.err;
      memory = c.claim.ensures.errors;
      told = refl;
    })
