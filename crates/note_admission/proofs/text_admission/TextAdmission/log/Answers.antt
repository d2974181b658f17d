use Rattle.std.proofs.Common.{ℕ, ap, subst}
use Rattle.note_laws.specs.Laws.{AreReadyInTurn}
use Rattle.note_admission.specs.Growing.{TextSeen}
use Rattle.note_admission.proofs.text_admission.TextAdmission.log.Goals as goal

pub returns-clause-ready : goal.returns-clause-ready
returns-clause-ready c =
    subst (λ (n : ℕ). AreReadyInTurn n c.self.inside.log.ops) (ap (λ (t : TextSeen). t.text) c.self.view_is)
    c.self.invariant.in_turn
