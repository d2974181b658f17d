use Rattle.std.proofs.Common.{◌≡◌, subst, sym}
use Rattle.std.specs.Prelude.{All}
use Rattle.taken_text.specs.Taken.{TakenSeen}
use Rattle.texts.specs.Text.{AreCharNames}
use Rattle.texts.proofs.replica.Replica.reuse.Goals as goal

pub invariant_of-self : goal.invariant_of-self
invariant_of-self c =
    let r = c.self.inside in
    subst (λ (taken : TakenSeen). All (λ op. op.text ≡ r.text) taken.operations × All (λ op. op.text ≡ r.text) r.room
    × AreCharNames taken.operations r.set) (sym c.reuse.ensures) c.self.invariant
