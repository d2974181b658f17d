-- The draining of the room: what waits is taken in as its causes come.
use Rattle.std.specs.Prelude.{◌≡◌, ℕ, ◌+◌, ◌⊎◌, List, ◌∷◌, ◌++◌, slice_get, All, Bool, true, false}
use Rattle.std.specs.Prelude.{Some, MatchBool, Result, Ok, Err}
use Rattle.looks.specs.declared.refusal.Refusal.{Refusal}
use Rattle.looks.specs.declared.refusal.Refusal.TheVariants.{OutOfMemory}
use Rattle.operations.specs.Operation.{Operation}
use Rattle.set_laws.specs.Fronts.{IsHeld}
use Rattle.set_laws.specs.Verdict.{misfit, low_stamp, ready}
use Rattle.waiting_room.specs.Room.{StaysWaiting, without}
use Rattle.texts.specs.Taking.{HasTaken, IsJudged}
use Rattle.texts.specs.TextState.{TextState, with_room}

-- all that waits waits for a cause, and none of it is held
abbrev pub AllStay : TextState → Type 0
AllStay t = All (StaysWaiting t.operations) t.waiting_room

-- these wait before the operation, and stay; and those after it
pub record IsNextOut (t : TextState) (before : List Operation) (op : Operation) (after : List Operation) : Type 0 where
  pub room : t.waiting_room ≡ before ++ op ∷ after
  pub stay : All (StaysWaiting t.operations) before

-- the operation's identity is held, or it is refused
abbrev pub IsThrownAway : TextState → Operation → Type 0
IsThrownAway t op =
    IsHeld t.operations op.site op.seq ⊎ (IsJudged t op misfit ⊎ IsJudged t op low_stamp)

-- Again and again the first waiting operation, in order of arrival, that is held or doesn't wait for a cause leaves
-- the room: one that is ready is taken in, any other is thrown away. So many are taken in and so many thrown away.
-- Where memory is refused, that operation stays, and the draining is stopped.
pub data Drains : TextState → (drained dropped : ℕ) → (stopped : Bool) → TextState → Type 0 where
  ends : {t : TextState} → AllStay t → Drains t 0 0 false t
  stops : {t : TextState} (before after : List Operation) (op : Operation) → IsNextOut t before op after
      → IsJudged t op ready → Drains t 0 0 true t
  takes_in : {t with_op new : TextState} {drained dropped : ℕ} {stopped : Bool} (before after : List Operation)
      (op : Operation) → IsNextOut t before op after → IsJudged t op ready
      → HasTaken (with_room t (before ++ after)) op with_op → Drains with_op drained dropped stopped new
      → Drains t (drained + 1) dropped stopped new
  throws_away : {t new : TextState} {drained dropped : ℕ} {stopped : Bool} (before after : List Operation)
      (op : Operation) → IsNextOut t before op after → IsThrownAway t op
      → Drains (with_room t (before ++ after)) drained dropped stopped new
      → Drains t drained (dropped + 1) stopped new

-- the operation at this index can be taken in, or is to be thrown away
abbrev pub IsReadyAt : TextState → ℕ → Bool → Type 0
IsReadyAt t index is_ready =
    (op : Operation) × (slice_get t.waiting_room index ≡ Some op)
    × MatchBool is_ready (IsJudged t op ready) (IsThrownAway t op)

-- the operation at this index leaves the room: it was taken in, or thrown away; or memory was refused, and nothing
-- changed
abbrev pub LeavesRoom : TextState → ℕ → Result Bool Refusal → TextState → Type 0
LeavesRoom t index (Ok true) new =
    (op : Operation) × (slice_get t.waiting_room index ≡ Some op) × IsJudged t op ready
    × HasTaken (with_room t (without t.waiting_room index)) op new
LeavesRoom t index (Ok false) new =
    (op : Operation) × (slice_get t.waiting_room index ≡ Some op) × IsThrownAway t op
    × (new ≡ with_room t (without t.waiting_room index))
LeavesRoom t index (Err why) new = (why ≡ OutOfMemory) × IsReadyAt t index true × (new ≡ t)
