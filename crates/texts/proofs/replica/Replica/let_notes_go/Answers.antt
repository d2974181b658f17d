use Rattle.std.proofs.Common.{◌≡◌, length, ap, sym, subst, ◌∙◌}
use Rattle.std.specs.Prelude.{All}
use Rattle.taken_text.specs.Taken.{TakenSeen}
use Rattle.texts.specs.Text.{AreCharNames}
use Rattle.texts.specs.TextState.{asked_of, text_state_of}
use Rattle.texts.proofs.Reported.{same_asked}
use Rattle.texts.proofs.replica.Replica.let_notes_go.Goals as goal

pub invariant_of-self : goal.invariant_of-self
invariant_of-self c =
    let r = c.self.inside in
    subst (λ (taken : TakenSeen). All (λ op. op.text ≡ r.text) taken.operations × All (λ op. op.text ≡ r.text) r.room
    × AreCharNames taken.operations r.set) (sym c.changes.ensures.asked) c.self.invariant

pub returns : goal.returns
returns c =
    let r = c.self.inside in
    ap (λ (taken : TakenSeen). text_state_of r.text r.site taken.operations taken.chars r.room r.stretch r.set
    (asked_of taken.asked r.reported)) c.changes.ensures.asked
    ∙ ap (text_state_of r.text r.site r.taken.operations r.taken.chars r.room r.stretch r.set)
    (same_asked r.reported (length r.taken.operations) r.taken.asked _ c.in-Some.is)
    ∙ c.self.view_is
