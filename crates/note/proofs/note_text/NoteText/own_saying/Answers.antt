use Rattle.std.proofs.Common.{List, [], sym, subst}
use Rattle.std.proofs.lemmas.List.{append-nil}
use Rattle.note_laws.specs.Note.{Saying}
use Rattle.note_laws.specs.Admission.{BuildsOn}
use Rattle.note_admission.specs.Continuing.{AreMentionedIn}
use Rattle.note_admission.specs.Growing.{AreTaken}
use Rattle.note_admission.specs.Kept.{Offsets}
use Rattle.note_admission.proofs.Between.{none_between}
use Rattle.note.specs.Texts.{NoteText}
use Rattle.note.proofs.Editing.{if_said}
use Rattle.note.proofs.note_text.NoteText.own_saying.Goals as goal

pub returns-clause-ok : goal.returns-clause-ok
returns-clause-ok c =
    let none = subst (λ (o : Offsets). AreMentionedIn c.args.op.site [] o) (sym c.new.ensures) (none_between c.args.op.site) in
    if_said c.args.key.now c.args.author c.args.before c.args.op c.in_ok-on.on c.args.self.now c.saying.result c.saying.ensures.ok
    (λ note entries admitted digest taken s op on.
    subst (λ (ss : List Saying). BuildsOn note ss s) (append-nil admitted)
    (c.in_ok-on.ensures.ok note entries admitted [] digest
    (subst (λ (t : NoteText). AreTaken note entries t.admission admitted) (sym c.self.view_is) taken) none s op on))
