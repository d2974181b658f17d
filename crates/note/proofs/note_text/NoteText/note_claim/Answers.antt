use Rattle.std.proofs.Common.{ap, subst, ◌∙◌}
use Rattle.note_admission.specs.Growing.{FollowsEntries, IsOfLost}
use Rattle.note.specs.Texts.{NoteText}
use Rattle.note.proofs.Following.{followed}
use Rattle.note.proofs.note_text.NoteText.note_claim.Goals as goal

pub returns-then-note_claim : goal.returns-then-note_claim
returns-then-note_claim c =
    followed c.args.self.now c.self.inside.replica c.note_claim.new.self c.args.site (IsOfLost c.args.lost c.args.site)
    (ap (λ (t : NoteText). t.replica.text) c.self.view_is) (ap (λ (t : NoteText). t.replica.site) c.self.view_is)
    (subst (λ (t : NoteText). FollowsEntries t.admission c.note_claim.new.self c.args.site (IsOfLost c.args.lost c.args.site)) c.self.view_is c.note_claim.ensures.follows)
    (c.note_claim.ensures.text ∙ ap (λ (t : NoteText). t.admission.text) c.self.view_is)

pub returns-else-note_claim : goal.returns-else-note_claim
returns-else-note_claim c =
    followed c.args.self.now c.self.inside.replica c.note_claim.new.self c.args.site (IsOfLost c.args.lost c.args.site)
    (ap (λ (t : NoteText). t.replica.text) c.self.view_is) (ap (λ (t : NoteText). t.replica.site) c.self.view_is)
    (subst (λ (t : NoteText). FollowsEntries t.admission c.note_claim.new.self c.args.site (IsOfLost c.args.lost c.args.site)) c.self.view_is c.note_claim.ensures.follows)
    (c.note_claim.ensures.text ∙ ap (λ (t : NoteText). t.admission.text) c.self.view_is)
