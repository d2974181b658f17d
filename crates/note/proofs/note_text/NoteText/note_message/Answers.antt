use Rattle.std.proofs.Common.{ap, subst, ◌∙◌}
use Rattle.note_admission.specs.Growing.{FollowsEntries, IsReplaced}
use Rattle.note.specs.Texts.{NoteText}
use Rattle.note.proofs.Following.{followed}
use Rattle.note.proofs.note_text.NoteText.note_message.Goals as goal

pub returns-then-note_message : goal.returns-then-note_message
returns-then-note_message c =
    followed c.args.self.now c.self.inside.replica c.note_message.new.self c.args.site (IsReplaced c.args.lost c.args.site c.args.seq)
    (ap (λ (t : NoteText). t.replica.text) c.self.view_is) (ap (λ (t : NoteText). t.replica.site) c.self.view_is)
    (subst (λ (t : NoteText). FollowsEntries t.admission c.note_message.new.self c.args.site (IsReplaced c.args.lost c.args.site c.args.seq)) c.self.view_is c.note_message.ensures.follows)
    (c.note_message.ensures.text ∙ ap (λ (t : NoteText). t.admission.text) c.self.view_is)

pub returns-else-note_message : goal.returns-else-note_message
returns-else-note_message c =
    followed c.args.self.now c.self.inside.replica c.note_message.new.self c.args.site (IsReplaced c.args.lost c.args.site c.args.seq)
    (ap (λ (t : NoteText). t.replica.text) c.self.view_is) (ap (λ (t : NoteText). t.replica.site) c.self.view_is)
    (subst (λ (t : NoteText). FollowsEntries t.admission c.note_message.new.self c.args.site (IsReplaced c.args.lost c.args.site c.args.seq)) c.self.view_is c.note_message.ensures.follows)
    (c.note_message.ensures.text ∙ ap (λ (t : NoteText). t.admission.text) c.self.view_is)
