use Rattle.std.proofs.Common.{◌≡◌, ◌≢◌, ℕ, suc, zero, refl}
use Rattle.looks.specs.declared.refusal.Refusal.{Refusal}
use Rattle.texts.specs.Own.{refused_after}
use Rattle.texts.specs.declared.edit_refusal.EditRefusal.TheVariants.{Partial}
use Rattle.texts.proofs.replica.own.refused_after.Goals as goal

partial : (done : ℕ) (why : Refusal) → done ≢ 0 → Partial done why ≡ refused_after done why
partial zero why some = absurd (some refl)
partial (suc n) why some = refl

pub returns-then-done-eq0 : goal.returns-then-done-eq0
returns-then-done-eq0 c = rw c.if-done-eq0.true refl

pub returns-else-done-eq0 : goal.returns-else-done-eq0
returns-else-done-eq0 c = partial c.args.done c.args.why c.if-done-eq0.false
