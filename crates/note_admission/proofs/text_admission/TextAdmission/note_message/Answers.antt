use Rattle.std.proofs.Common.{◌≡◌, ℕ, Option, Some, None, IsSome, is_some, true, refl, sym, subst, ◌∙◌}
use Rattle.std.proofs.lemmas.Bool.{false≢true}
use Rattle.set_laws.specs.Fronts.{IsHeld}
use Rattle.note_admission.specs.Growing.{IsReplaced, TextSeen}
use Rattle.note_admission.proofs.Expecting.{follows_some, held_in_log}
use Rattle.note_admission.proofs.text_admission.TextAdmission.note_message.Goals as goal
use Rattle.note_admission.proofs.text_admission.TextAdmission.note_message.Goals.{then-lost, else-lost}

is_some_true : {X : Type 0} (o : Option X) → IsSome o → is_some o ≡ true
is_some_true None some = some
is_some_true (Some x) some = refl

pub returns-clause-follows : goal.returns-clause-follows
returns-clause-follows c =
    let t = c.args.self.now in
    let x = c.self.inside in
    follows_some t c.follow.new.self c.args.site (IsReplaced c.args.lost c.args.site c.args.seq) c.if-lost.is_replaced
    c.follow.ensures.kept c.follow.ensures.anew (λ no note entries admitted is s held may. elim c.if-lost.branch [
      | then-lost w ↦
          let here : IsHeld x.log.ops s.op.site s.op.seq = subst (λ (u : TextSeen). IsHeld u.ops s.op.site s.op.seq)
          (sym c.self.view_is) (held_in_log note entries t admitted is s held) in
          let at : IsHeld x.log.ops c.args.site c.args.seq = subst (λ (n : ℕ). IsHeld x.log.ops n c.args.seq) may.1
          (subst (λ (n : ℕ). IsHeld x.log.ops s.op.site n) may.2 here) in
          let some = w.place.ensures.here.1 at in
          absurd (false≢true (sym no ∙ (w.is_replaced-is ∙ (w.is_some-is_replaced.ensures ∙ is_some_true w.place.result some))))
      | else-lost w ↦ absurd (false≢true (sym w.if-lost.false ∙ may.0))
    ])
