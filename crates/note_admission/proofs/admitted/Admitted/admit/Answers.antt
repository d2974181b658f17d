use Rattle.std.proofs.Common.{ℕ, List, refl, subst, ◌∙◌}
use Rattle.operations.specs.NameSet.{IsSet, Range}
use Rattle.note_admission.specs.Kept.{AreSeenBy}
use Rattle.note_admission.proofs.Keeping.{kept_more, kept_still, on_err_from}
use Rattle.note_admission.proofs.admitted.Admitted.admit.Goals as goal

pub returns-in_err-reserve-clause-err : goal.returns-in_err-reserve-clause-err
returns-in_err-reserve-clause-err c =
    rw (← c.self.view_is) (on_err_from c.from_residual-in_err-reserve.result
    (λ note admitted is. kept_still note admitted _ _ is c.reserve.ensures.same refl refl))

pub returns-in_err-push-clause-err : goal.returns-in_err-push-clause-err
returns-in_err-push-clause-err c =
    rw (← c.self.view_is) (on_err_from c.from_residual-in_err-push.result
    (λ note admitted is. kept_still note admitted _ _ is c.reserve.ensures.same c.in_err-push.ensures.items refl))

pub returns-clause-ok : goal.returns-clause-ok
returns-clause-ok c =
    let op = c.saying.inside.op in
    let set = subst IsSet c.in_ok-ranges.ensures.ok c.in_ok-ranges.ensures.set in
    let seen = subst (λ (rs : List Range). AreSeenBy c.reserve.new.self op.site rs c.raise.new.self)
    (c.deref-2.ensures.value ∙ c.in_ok-ranges.ensures.ok)
    (subst (λ (n : ℕ). AreSeenBy c.reserve.new.self n c.deref-2.result.now c.raise.new.self) c.site-chain.ensures
    c.raise.ensures) in
    rw (← c.self.view_is) (rw (← c.saying.view_is)
    (λ note admitted is. kept_more admitted _ set note _ _ c.reserve.new.self is c.reserve.ensures.same
    c.in_ok-push.ensures.items seen refl))
