-- Messages, and what becomes of the operations that they tell.
use Rattle.std.proofs.Common.{◌≡◌, ℕ, ◌⊎◌, inl, inr, List, [], ◌∷◌, ◌++◌, length, Ok, Err, Result, Bool, true, false}
use Rattle.std.proofs.Common.{nat_lt, refl, ap, subst, sym}
use Rattle.std.specs.Prelude.{All, IsErrAnd, MatchBool}
use Rattle.std.proofs.lemmas.List.Elements.{All-push}
use Rattle.looks.specs.declared.refusal.Refusal.{Refusal}
use Rattle.looks.specs.declared.refusal.Refusal.TheVariants.{Conflict, OutOfMemory, RoomFull}
use Rattle.operations.specs.Operation.{Operation}
use Rattle.set_laws.specs.Fronts.{IsHeld}
use Rattle.waiting_room.specs.Room.{Offers}
use Rattle.waiting_room.specs.declared.room.Offered.{Offered}
use Rattle.waiting_room.specs.declared.room.Offered.TheVariants.{New, Same}
use Rattle.waiting_room.specs.declared.room.TheConstants.{MAX_WAITING}
use Rattle.texts.specs.Draining.{Drains}
use Rattle.texts.specs.Take.{Enters, Stays, StaysOut, Takes, TakesIn, TakesOp, TakesOpShort, TakesShort, Encodes}
use Rattle.texts.specs.Taking.{HasTaken}
use Rattle.texts.specs.TextState.{TextState, with_room}
use Rattle.texts.specs.declared.took.Took.{Took}
use Rattle.texts.specs.declared.took.Took.TheVariants.{Taken, Waits}

-- what holds of those that wait, and of one that is offered, holds of those that wait then
pub all_offered : (P : Operation → Type 0) (room : List Operation) (op : Operation) (what : Offered)
    (new : List Operation) → Offers room op (Ok what) new → All P room → P op → All P new
all_offered P room op New new (place, same) all own = subst (All P) (sym same) (All-push P room op all own)
all_offered P room op Same new (waits, same) all own = subst (All P) (sym same) all

module _ (t : TextState) (op : Operation) where
  -- an operation that was refused a place in the room doesn't change the text
  refused_for_room : (why : Refusal) (room : List Operation) → (¬ IsHeld t.waiting_room op.site op.seq)
      → Offers t.waiting_room op (Err why) room
      → Enters t op (Err why) (with_room t room) ⊎ StaysOut t (Err why) (with_room t room)
  refused_for_room Conflict room unheld ((other, waits, site, seq, differs), same) =
      absurd (unheld (other, waits, site, seq))
  refused_for_room RoomFull room unheld (none, full, same) =
      let no_place : nat_lt (length t.waiting_room) MAX_WAITING ≡ false = ap (λ n. nat_lt n MAX_WAITING) full in
      inl (subst (λ b. MatchBool b
      ((Err RoomFull ≡ Ok Waits) × (with_room t room ≡ with_room t (t.waiting_room ++ op ∷ [])))
      (Stays t (Err RoomFull) (Err RoomFull) (with_room t room))) (sym no_place) (refl, ap (with_room t) same))
  refused_for_room OutOfMemory room unheld (place, same) = inr (place.1, (refl, ap (with_room t) same))
  refused_for_room why room unheld other = absurd other

  -- and is answered so
  pub kept_out : (result : Result Took Refusal) (why : Refusal) (room : List Operation)
      → IsErrAnd result (λ e. e ≡ why) → (¬ IsHeld t.waiting_room op.site op.seq)
      → Offers t.waiting_room op (Err why) room
      → Enters t op result (with_room t room) ⊎ StaysOut t result (with_room t room)
  kept_out (Ok took) why room err unheld offers = absurd err
  kept_out (Err e) why room err unheld offers =
      subst (λ x. Enters t op (Err x) (with_room t room) ⊎ StaysOut t (Err x) (with_room t room))
      (sym err) (refused_for_room why room unheld offers)

-- an operation was taken in, and the room drained after it, as far as that goes
pub taken_and_drained : (t with_op : TextState) (op : Operation) (drained dropped : ℕ) (stopped : Bool)
    (new : TextState) → HasTaken t op with_op → Drains with_op drained dropped stopped new
    → TakesIn t op false (Ok (Taken drained dropped stopped)) new
    ⊎ (TakesIn t op true (Ok (Taken drained dropped stopped)) new
    ⊎ Stays t (Err OutOfMemory) (Ok (Taken drained dropped stopped)) new)
taken_and_drained t with_op op drained dropped false new taken drains =
    inl (with_op, drained, dropped, taken, drains, refl)
taken_and_drained t with_op op drained dropped true new taken drains =
    inr (inl (with_op, drained, dropped, taken, drains, refl))

-- a message that tells an operation is answered as that is, where it could be read
pub answered : (t : TextState) (message : List ℕ) (op : Operation) (result : Result Took Refusal) (new : TextState)
    → Encodes message op → TakesOp t op result new ⊎ TakesOpShort t op result new
    → Takes t message result new ⊎ TakesShort t message result new
answered t message op result new tells (inl (fate, has, becomes)) = inl (inr (op, fate, tells, has, becomes))
answered t message op result new tells (inr (inl (has, (few, stays)))) =
    inr (inl (λ none. none op tells.valid tells.spelled, stays))
answered t message op result new tells (inr (inr (has, inl taken))) = inr (inr (op, tells, has, taken))
answered t message op result new tells (inr (inr (has, inr stays))) =
    inr (inl (λ none. none op tells.valid tells.spelled, stays))
