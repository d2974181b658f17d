use Rattle.std.proofs.Common.{◌≡◌, ◌<◌, ◌-◌, length, slice_index_or, arith, subst}
use Rattle.note_admission.specs.Growing.{AreTaken}
use Rattle.note.specs.Notes.{NoteSeen}
use Rattle.note.specs.Texts.{NoteText}
use Rattle.note.proofs.Editing.{numbered}
use Rattle.note.proofs.note.Note.last.Goals as goal

pub returns : goal.returns
returns c = λ d note entries admitted taken.
    let texts = c.self.inside.texts.items in
    let at = c.in-Some.at in
    let t = c.index.result.now in
    let many = c.self.invariant.many in
    let (nth, below) = c.in-Some.ensures.some in
    let lt : at < length texts = omega arith in
    let same = subst (λ (n : NoteSeen). slice_index_or n.texts (c.args.text - 1) d ≡ t) c.self.view_is
    (numbered texts c.args.text at d t nth lt c.index.ensures) in
    c.last.ensures note entries admitted (subst (λ (u : NoteText). AreTaken note entries u.admission admitted) same taken)
