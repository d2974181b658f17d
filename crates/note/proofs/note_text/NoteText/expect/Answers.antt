use Rattle.std.proofs.Common.{subst}
use Rattle.note_admission.specs.Growing.{StaysAdmitted}
use Rattle.note.specs.Texts.{NoteText}
use Rattle.note.proofs.note_text.NoteText.expect.Goals as goal

pub returns-clause-stays : goal.returns-clause-stays
returns-clause-stays c =
    subst (λ (t : NoteText). StaysAdmitted t.admission c.expect.new.self) c.self.view_is c.expect.ensures.stays
