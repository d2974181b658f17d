-- What a verdict says of an operation that follows on.
use Rattle.std.proofs.Common.{◌≡◌, ◌↔◌, inl, inr, true, refl, List}
use Rattle.std.proofs.lemmas.Bool.{false≢true}
use Rattle.operations.specs.Operation.{Operation}
use Rattle.set_laws.specs.Verdict.{FollowsOn, FitsFile, HasForeignNames, IsAboveCauses, HasVerdict}
use Rattle.waiting_room.specs.declared.judging.Verdict.{Verdict}
use Rattle.waiting_room.specs.declared.judging.Verdict.TheVariants.{Wait, Misfit, LowStamp, Ready}
use Rattle.waiting_room.specs.Judged.{verdict_of}
use Rattle.note_admission.specs.Fates.{is_fit, is_ready, lacks_none}

module _ (ops : List Operation) (op : Operation) (follows : FollowsOn ops op) where
  pub told_fits : (v : Verdict) → HasVerdict ops op (verdict_of v) → (is_fit v ≡ true) ↔ FitsFile ops op
  told_fits Wait judged = (
    λ e. elim judged [ inl none ↦ absurd (none follows) | inr rest ↦ rest.1 ],
    λ fits. refl,
  )
  told_fits Misfit judged = (λ e. absurd (false≢true e), λ fits. absurd (judged.1 fits))
  told_fits LowStamp judged = (λ e. judged.1, λ fits. refl)
  told_fits Ready judged = (λ e. judged.1, λ fits. refl)

  pub told_lacks_none : (v : Verdict) → HasVerdict ops op (verdict_of v) → FitsFile ops op
      → (lacks_none v ≡ true) ↔ HasForeignNames ops op
  told_lacks_none Wait judged placed = (
    λ e. absurd (false≢true e),
    λ foreign. elim judged [ inl none ↦ absurd (none follows) | inr rest ↦ absurd (rest.2 foreign) ],
  )
  told_lacks_none Misfit judged placed = (λ e. absurd (false≢true e), λ foreign. absurd (judged.1 placed))
  told_lacks_none LowStamp judged placed = (λ e. judged.2, λ foreign. refl)
  told_lacks_none Ready judged placed = (λ e. judged.2, λ foreign. refl)

  pub told_ready : (v : Verdict) → HasVerdict ops op (verdict_of v) → FitsFile ops op → HasForeignNames ops op
      → (is_ready v ≡ true) ↔ IsAboveCauses ops op
  told_ready Wait judged placed foreign = (
    λ e. absurd (false≢true e),
    λ above. elim judged [ inl none ↦ absurd (none follows) | inr rest ↦ absurd (rest.2 foreign) ],
  )
  told_ready Misfit judged placed foreign = (λ e. absurd (false≢true e), λ above. absurd (judged.1 placed))
  told_ready LowStamp judged placed foreign = (λ e. absurd (false≢true e), λ above. absurd (judged.3 above))
  told_ready Ready judged placed foreign = (λ e. judged.3, λ above. refl)
