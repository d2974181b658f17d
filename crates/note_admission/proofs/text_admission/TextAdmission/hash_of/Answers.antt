use Rattle.std.proofs.Common.{refl, sym, subst}
use Rattle.std.proofs.lemmas.Bool.{false≢true}
use Rattle.set_laws.specs.Fronts.{IsHeld}
use Rattle.note_admission.specs.Growing.{IsHashOf, TextSeen}
use Rattle.note_admission.proofs.text_admission.TextAdmission.hash_of.Goals as goal

pub returns-in-Some-clause-held : goal.returns-in-Some-clause-held
returns-in-Some-clause-held c =
    let (op, here, on, at) = c.in-Some.ensures.value in
    λ h. subst (λ (t : TextSeen). IsHashOf t.ops t.kept.hashes c.args.site c.args.seq c.hash.result) c.self.view_is
    (c.in-Some.place, op, here, on, at, c.hash.ensures)

pub returns-in-Some-clause-none : goal.returns-in-Some-clause-none
returns-in-Some-clause-none c =
    let (op, here, on, at) = c.in-Some.ensures.value in
    λ absent. absurd (absent (subst (λ (t : TextSeen). IsHeld t.ops c.args.site c.args.seq) c.self.view_is
    (c.in-Some.ensures.here.0 refl)))

pub returns-in-None-clause-held : goal.returns-in-None-clause-held
returns-in-None-clause-held c =
    λ h. absurd (false≢true (c.in-None.ensures.here.1
    (subst (λ (t : TextSeen). IsHeld t.ops c.args.site c.args.seq) (sym c.self.view_is) h)))
