use Rattle.std.proofs.Common.{sym, subst}
use Rattle.note_admission.specs.Growing.{AreTaken}
use Rattle.note.specs.Texts.{NoteText}
use Rattle.note.proofs.note_text.NoteText.last.Goals as goal

pub returns : goal.returns
returns c = λ note entries admitted taken.
    c.last.ensures note entries admitted (subst (λ (t : NoteText). AreTaken note entries t.admission admitted) (sym c.self.view_is) taken)
