use Rattle.std.proofs.Common.{◌≡◌, ◌⊎◌, inl, inr, List, [], ◌∷◌, ◌++◌, length, nat_lt, Bool, true, false}
use Rattle.std.proofs.Common.{MatchBool, Result, Ok, Err, Contains}
use Rattle.looks.specs.declared.refusal.Refusal.{Refusal}
use Rattle.looks.specs.declared.refusal.Refusal.TheVariants.{RoomFull}
use Rattle.operations.specs.Operation.{Operation}
use Rattle.set_laws.specs.Sets.{AreIdentified}
use Rattle.waiting_room.specs.declared.room.TheConstants.{MAX_WAITING}
use Rattle.texts.specs.Take.{Becomes, HasFate, Stays, TakesIn, TakesOp, TakesOpShort}
use Rattle.texts.specs.Text.{IsText}
use Rattle.texts.specs.TextState.{TextState, with_room}
use Rattle.texts.specs.declared.fate.Fate.{Fate}
use Rattle.texts.specs.declared.fate.Fate.TheVariants.{OtherText, Known, Conflicting, AlreadyWaits, Wait}
use Rattle.texts.specs.declared.fate.Fate.TheVariants.{Misfit, LowStamp, Ready}
use Rattle.texts.specs.declared.took.Took.{Took}
use Rattle.texts.specs.declared.took.Took.TheVariants.{Waits}
use Rattle.convergence.specs.HandedIn.{AccountsFor, KeepsWith, KeptByDraining}
use Rattle.convergence.proofs.Kept.{IsSettled, kept_as_it_is, kept_waiting_more, kept_with_all}
use Rattle.convergence.proofs.handed_in.lemma_taking_operations_keeps.Goals as goal

module _ (draining : KeptByDraining) (t new : TextState) (op : Operation) (result : Result Took Refusal)
    (all : List Operation) (text : IsText t) (keeps : AccountsFor t all) where
  -- one that waits or is settled changes nothing
  kept_unchanged : Contains t.waiting_room op ⊎ IsSettled t.operations op → AreIdentified (all ++ op ∷ [])
      → AccountsFor t (all ++ op ∷ [])
  kept_unchanged is known = record {
    identified = known;
    kept = kept_as_it_is t.operations t.waiting_room all op is keeps.kept;
  }

  -- one that waits now
  kept_waiting : AreIdentified (all ++ op ∷ [])
      → AccountsFor (with_room t (t.waiting_room ++ op ∷ [])) (all ++ op ∷ [])
  kept_waiting known = record {
    identified = known;
    kept = kept_waiting_more t.operations t.waiting_room all (op ∷ []) keeps.kept;
  }

  -- or is refused for want of a place
  kept_entering : (place : Bool)
      → MatchBool place ((result ≡ Ok Waits) × (new ≡ with_room t (t.waiting_room ++ op ∷ [])))
      (Stays t (Err RoomFull) result new)
      → KeepsWith all op result new
  kept_entering true (answer, same) = rw answer (rw same kept_waiting)
  kept_entering false (answer, same) = rw answer (rw same keeps)

  -- one that is taken in, with the draining after it
  kept_taken_in : (stopped : Bool) → TakesIn t op stopped result new → KeepsWith all op result new
  kept_taken_in stopped (with_op, drained, dropped, has, drains, answer) =
      rw answer (λ (known : AreIdentified (all ++ op ∷ [])).
      draining with_op new drained dropped stopped (all ++ op ∷ []) has.is
      (kept_with_all t with_op (op ∷ []) all text keeps has known) drains)

  -- whatever becomes of the operation
  kept_by_fate : (fate : Fate) → HasFate t op fate → Becomes t op fate result new → KeepsWith all op result new
  kept_by_fate OtherText is (answer, same) = rw answer (rw same keeps)
  kept_by_fate Known is (answer, same) = rw answer (rw same (kept_unchanged (inr (inl is.1))))
  kept_by_fate Conflicting is (answer, same) = rw answer (rw same keeps)
  kept_by_fate AlreadyWaits is (answer, same) = rw answer (rw same (kept_unchanged (inl is.2)))
  kept_by_fate Wait is enters = kept_entering (nat_lt (length t.waiting_room) MAX_WAITING) enters
  kept_by_fate Misfit is (answer, same) = rw answer (rw same (kept_unchanged (inr (inr (inl is.1.2)))))
  kept_by_fate LowStamp is (answer, same) = rw answer (rw same (kept_unchanged (inr (inr (inr is.1.2)))))
  kept_by_fate Ready is takes = kept_taken_in false takes

  -- whether memory was there or not
  kept_by_taking_op : TakesOp t op result new ⊎ TakesOpShort t op result new → KeepsWith all op result new
  kept_by_taking_op (inl (fate, has, becomes)) = kept_by_fate fate has becomes
  kept_by_taking_op (inr (inl (has, (place, (answer, same))))) = rw answer (rw same keeps)
  kept_by_taking_op (inr (inr (has, inl takes))) = kept_taken_in true takes
  kept_by_taking_op (inr (inr (has, inr (answer, same)))) = rw answer (rw same keeps)

pub returns : goal.returns
returns c = λ t new op result all text keeps takes.
    kept_by_taking_op c.lemma_draining_keeps.ensures t new op result all text keeps takes
