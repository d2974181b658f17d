use Rattle.std.proofs.Common.{◌≡◌, ◌<◌, sym, ap, subst, ◌∙◌, arith}
use Rattle.std.proofs.lemmas.Bool.{false≢true, lt-ltb}
use Rattle.set_laws.specs.Fronts.{front_of, IsHeld}
use Rattle.set_laws.proofs.Fronts.{lemma_are_held_to_the_front}
use Rattle.note_admission.specs.Growing.{IsOfLost, TextSeen}
use Rattle.note_admission.proofs.Expecting.{follows_some, held_in_log}
use Rattle.note_admission.proofs.text_admission.TextAdmission.note_claim.Goals as goal
use Rattle.note_admission.proofs.text_admission.TextAdmission.note_claim.Goals.{then-lost, else-lost}

pub returns-clause-follows : goal.returns-clause-follows
returns-clause-follows c =
    let t = c.args.self.now in
    let x = c.self.inside in
    follows_some t c.follow.new.self c.args.site (IsOfLost c.args.lost c.args.site) c.if-lost.is_lost c.follow.ensures.kept
    c.follow.ensures.anew (λ no note entries admitted is s held may. elim c.if-lost.branch [
      | then-lost w ↦
          let here : IsHeld x.log.ops s.op.site s.op.seq = subst (λ (u : TextSeen). IsHeld u.ops s.op.site s.op.seq)
          (sym c.self.view_is) (held_in_log note entries t admitted is s held) in
          let (some, le) = (lemma_are_held_to_the_front x.log.ops c.self.invariant.good c.self.invariant.known s.op.site s.op.seq).0 here in
          let same : front_of x.log.ops s.op.site ≡ front_of x.log.ops c.args.site = ap (front_of x.log.ops) may.1 in
          let above : 0 < w.front.result = let front = w.front.ensures in omega arith in
          absurd (false≢true (sym no ∙ (w.is_lost-is ∙ lt-ltb 0 w.front.result above)))
      | else-lost w ↦ absurd (false≢true (sym w.if-lost.false ∙ may.0))
    ])
