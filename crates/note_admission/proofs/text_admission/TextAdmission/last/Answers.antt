use Rattle.std.proofs.Common.{◌≡◌, ℕ, ap, subst, ◌∙◌}
use Rattle.set_laws.specs.Fronts.{front_of, IsHeld}
use Rattle.note_admission.specs.Growing.{IsHashOf, TextSeen}
use Rattle.note_admission.proofs.Heads.{last_hash}
use Rattle.note_admission.proofs.text_admission.TextAdmission.last.Goals as goal

pub returns : goal.returns
returns c =
    let t = c.args.self.now in
    let site = c.args.site in
    let front : c.front.result ≡ front_of t.ops site =
    c.front.ensures ∙ ap (λ (x : TextSeen). front_of x.ops site) c.self.view_is in
    λ note entries admitted taken. last_hash note entries t admitted taken site c.hash_of.result
    (subst (λ (n : ℕ). IsHeld t.ops site n → IsHashOf t.ops t.kept.hashes site n c.hash_of.result) front c.hash_of.ensures.held)
    (subst (λ (n : ℕ). (IsHeld t.ops site n → ⊥) → c.hash_of.result ≡ 0) front c.hash_of.ensures.none)
