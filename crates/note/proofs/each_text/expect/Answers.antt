use Rattle.std.proofs.Common.{slice_index_or, refl}
use Rattle.note_admission.specs.Growing.{StaysAdmitted}
use Rattle.note.specs.Texts.{IsSameText, NoteText}
use Rattle.note.proofs.Each.{ended}
use Rattle.note.proofs.Following.{stays_itself}
use Rattle.note.proofs.each_text.expect.Goals as goal

pub returns-clause-stays : goal.returns-clause-stays
returns-clause-stays c =
    let old = c.args.texts.now in
    let So = λ (was t : NoteText). StaysAdmitted was.admission t.admission × IsSameText was t in
    ended So old old refl c.args.at c.index-texts-at.result c.expect.new.self c.requires (λ k d le. refl)
    (c.expect.ensures.stays, c.expect.ensures.same) (λ k d less. stays_itself (slice_index_or old k d)) (λ t. stays_itself t)
