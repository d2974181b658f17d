use Rattle.std.proofs.Common.{◌≡◌, ℕ, zero, suc, ◌+◌, ◌≤◌, inl, inr, List, [], ◌∷◌, ◌++◌, length, take, nat_lt, All}
use Rattle.std.proofs.Common.{Bool, true, false, MatchBool, MatchOption, Option, Some, None, Result, Ok, Err, Contains}
use Rattle.std.proofs.Common.{◌||◌, ◌∙◌, refl, sym, ap, subst, arith}
use Rattle.std.proofs.lemmas.Bool.{true≢false}
use Rattle.std.proofs.lemmas.List.Elements.{All-cons, All-contains, All-contains_itself, All-nil, All-push, All-take, All-weaker}
use Rattle.looks.specs.declared.refusal.Refusal.{Refusal}
use Rattle.looks.specs.declared.refusal.Refusal.TheVariants.{RoomFull}
use Rattle.operations.specs.NameSet.{Range}
use Rattle.operations.specs.Operation.{Operation}
use Rattle.chunks.specs.Chunks.{operations_of}
use Rattle.waiting_room.specs.Room.{StaysWaiting, is_behind}
use Rattle.waiting_room.specs.declared.room.TheConstants.{MAX_WAITING}
use Rattle.texts.specs.Draining.{AllStay, Drains}
use Rattle.texts.specs.Draining.Drains.{ends, stops, takes_in, throws_away}
use Rattle.texts.specs.Edit.{after, plan}
use Rattle.texts.specs.Named.{IsLeft, IsMade, changes_any, names_changed, op_by_names, refusal_of_names}
use Rattle.texts.specs.Outcome.{count_standing}
use Rattle.texts.specs.Take.{Becomes, HasFate, Stays, Takes, TakesOp}
use Rattle.texts.specs.TextState.{TextState, with_room}
use Rattle.texts.specs.declared.by_names.ByNames.{ByNames}
use Rattle.texts.specs.declared.edit_refusal.EditRefusal.{EditRefusal}
use Rattle.texts.specs.declared.edit_refusal.EditRefusal.TheVariants.{Whole}
use Rattle.texts.specs.declared.fate.Fate.{Fate}
use Rattle.texts.specs.declared.fate.Fate.TheVariants.{OtherText, Known, Conflicting, AlreadyWaits, Wait}
use Rattle.texts.specs.declared.fate.Fate.TheVariants.{Misfit, LowStamp, Ready}
use Rattle.texts.specs.declared.took.Took.{Took}
use Rattle.texts.specs.declared.took.Took.TheVariants.{Waits}
use Rattle.text_chunks.specs.Unpacking.{HandsIn, Unpacks, counted_in, nothing_unpacked}
use Rattle.text_chunks.specs.declared.unpacked.UnpackRefusal.{UnpackRefusal}
use Rattle.text_chunks.specs.declared.unpacked.Unpacked.{Unpacked}
use Rattle.convergence.proofs.OwnOperations.{IsBy, after_operations, after_room, not_after, not_behind_by, own_plan}
use Rattle.convergence.proofs.Staying.{stays_still}
use Rattle.convergence.proofs.Unmentioned.{LeavesFree, leaves_free}
use Rattle.convergence.proofs.handed_in.lemma_what_waits_stays_waiting.Goals as goal

-- all that waits stays, by what the text has
all_stay_by : (t : TextState) (taken waiting : List Operation) → t.operations ≡ taken → t.waiting_room ≡ waiting
    → All (StaysWaiting taken) waiting → AllStay t
all_stay_by t taken waiting operations room stay =
    subst (All (StaysWaiting t.operations)) (sym room)
    (subst (λ (ops : List Operation). All (StaysWaiting ops) waiting) (sym operations) stay)

-- a draining that wasn't stopped ends where all that waits stays
all_stay_drained : {t new : TextState} {drained dropped : ℕ} {stopped : Bool}
    → Drains t drained dropped stopped new → stopped ≡ false → AllStay new
all_stay_drained (ends stay) whole = stay
all_stay_drained (stops earlier later op next ready) whole = absurd (true≢false whole)
all_stay_drained (takes_in earlier later op next ready has more) whole = all_stay_drained more whole
all_stay_drained (throws_away earlier later op next thrown more) whole = all_stay_drained more whole

module _ (t : TextState) (stay : AllStay t) where
  -- one more that waits stays, or is refused for want of a place
  all_stay_entered : (op : Operation) → StaysWaiting t.operations op → (place : Bool) → (result : Result Took Refusal)
      → (new : TextState)
      → MatchBool place ((result ≡ Ok Waits) × (new ≡ with_room t (t.waiting_room ++ op ∷ [])))
      (Stays t (Err RoomFull) result new)
      → AllStay new
  all_stay_entered op waits true result new (answer, same) =
      subst AllStay (sym same) (All-push (StaysWaiting t.operations) t.waiting_room op stay waits)
  all_stay_entered op waits false result new (answer, same) = subst AllStay (sym same) stay

  -- whatever becomes of the operation
  all_stay_by_fate : (op : Operation) (fate : Fate) → HasFate t op fate → (result : Result Took Refusal)
      → (new : TextState) → Becomes t op fate result new → AllStay new
  all_stay_by_fate op OtherText is result new (answer, same) = subst AllStay (sym same) stay
  all_stay_by_fate op Known is result new (answer, same) = subst AllStay (sym same) stay
  all_stay_by_fate op Conflicting is result new (answer, same) = subst AllStay (sym same) stay
  all_stay_by_fate op AlreadyWaits is result new (answer, same) = subst AllStay (sym same) stay
  all_stay_by_fate op Wait (apart, (of_text, unheld, waits)) result new enters =
      all_stay_entered op (unheld, waits) (nat_lt (length t.waiting_room) MAX_WAITING) result new enters
  all_stay_by_fate op Misfit is result new (answer, same) = subst AllStay (sym same) stay
  all_stay_by_fate op LowStamp is result new (answer, same) = subst AllStay (sym same) stay
  all_stay_by_fate op Ready is result new (with_op, drained, dropped, has, drains, answer) =
      all_stay_drained drains refl

  -- whatever the message tells
  all_stay_taken : (message : List ℕ) (result : Result Took Refusal) (new : TextState)
      → Takes t message result new → AllStay new
  all_stay_taken message result new (inl (none, (answer, same))) = subst AllStay (sym same) stay
  all_stay_taken message result new (inr (op, fate, told, has, becomes)) =
      all_stay_by_fate op fate has result new becomes

  -- or its operation
  all_stay_taken_op : (op : Operation) (result : Result Took Refusal) (new : TextState) → TakesOp t op result new → AllStay new
  all_stay_taken_op op result new (fate, has, becomes) = all_stay_by_fate op fate has result new becomes

  -- all that waits stays, with more operations of a site that isn't behind
  all_stay_with : (ops : List Operation) (new : TextState) → new.operations ≡ t.operations ++ ops
      → new.waiting_room ≡ t.waiting_room → All (IsBy t.site) ops
      → ((op : Operation) → Contains t.waiting_room op → LeavesFree t.operations t.site op) → AllStay new
  all_stay_with ops new operations room own free =
      all_stay_by new (t.operations ++ ops) t.waiting_room operations room
      (All-weaker (Contains t.waiting_room) (StaysWaiting (t.operations ++ ops))
      (λ op held. stays_still t.operations ops t.site own op (free op held)
      (All-contains (StaysWaiting t.operations) t.waiting_room op stay held))
      t.waiting_room (All-contains_itself t.waiting_room))

  -- and so with own operations that stand
  all_stay_edited : (ops : List Operation) (n : ℕ) → All (IsBy t.site) ops → n ≤ count_standing t ops
      → AllStay (after t (take n ops))
  all_stay_edited ops zero own few = stay
  all_stay_edited [] (suc n) own few = stay
  all_stay_edited (op ∷ ops) (suc n) own few =
      all_stay_with (take (suc n) (op ∷ ops)) (after t (take (suc n) (op ∷ ops)))
      (after_operations t (take (suc n) (op ∷ ops))) (after_room t (take (suc n) (op ∷ ops))) (All-take (IsBy t.site) (suc n) (op ∷ ops) own)
      (leaves_free t.operations t.waiting_room t.site
      (not_after t (op ∷ ops) (omega arith) (omega arith)))

  -- and with the operation of an edit by names
  all_stay_made : (what : ByNames) (names : List Range) (why : Option Refusal)
      → refusal_of_names t (names_changed t what names) ≡ why → (result : Result ℕ EditRefusal) (new : TextState)
      (messages : List (List ℕ))
      → MatchOption why (IsMade t (op_by_names t what names) result new messages)
      (λ r. IsLeft t (Err (Whole r)) result new messages)
      → AllStay new
  all_stay_made what names None free result new messages (answer, has, sent) =
      all_stay_with (op_by_names t what names ∷ []) new (ap (λ (u : TextState). u.operations) has.grown)
      (ap (λ (u : TextState). u.waiting_room) has.grown)
      (All-cons (IsBy t.site) (op_by_names t what names) [] refl (All-nil (IsBy t.site)))
      (leaves_free t.operations t.waiting_room t.site
      (not_behind_by (is_behind t.operations t.waiting_room t.site) _ free))
  all_stay_made what names (Some r) refused result new messages (answer, same, none) = subst AllStay (sym same) stay

  -- whether it changes something or not
  all_stay_by_names : (what : ByNames) (names : List Range) (any : Bool) (result : Result ℕ EditRefusal) (new : TextState)
      (messages : List (List ℕ))
      → MatchBool any
      (MatchOption (refusal_of_names t (names_changed t what names)) (IsMade t (op_by_names t what names) result new messages)
      (λ why. IsLeft t (Err (Whole why)) result new messages))
      (IsLeft t (Ok 0) result new messages)
      → AllStay new
  all_stay_by_names what names true result new messages made =
      all_stay_made what names (refusal_of_names t (names_changed t what names)) refl result new messages made
  all_stay_by_names what names false result new messages (answer, same, none) = subst AllStay (sym same) stay

-- once memory was refused to one operation of a chunk, it was to the chunk
once_short : (done : ℕ) (c : Unpacked) (was : Bool) (t : TextState) (ops : List Operation) (short : Bool)
    (result : Result Unpacked UnpackRefusal) (new : TextState) → was ≡ true → HandsIn done c was t ops short result new
    → short ≡ true
once_short done c was t [] short result new so (is, answer, same) = is ∙ so
once_short done c was t (op ∷ ops) short result new so (one, Ok how, mid, takes, rest) =
    once_short (done + 1) (counted_in c t mid how) (was || one) mid ops short result new
    (ap (λ (b : Bool). b || one) so) rest
once_short done c was t (op ∷ ops) short result new so (one, Err why, mid, takes, (is, answer, same)) =
    is ∙ ap (λ (b : Bool). b || one) so

-- all that waits stays after a chunk's operations, where memory was there
all_stay_handed : (done : ℕ) (c : Unpacked) (t : TextState) (ops : List Operation) (result : Result Unpacked UnpackRefusal)
    (new : TextState) → AllStay t → HandsIn done c false t ops false result new → AllStay new
all_stay_handed done c t [] result new stay (is, answer, same) = subst AllStay (sym same) stay
all_stay_handed done c t (op ∷ ops) result new stay (true, Ok how, mid, takes, rest) =
    absurd (true≢false (sym (once_short (done + 1) (counted_in c t mid how) true mid ops false result new refl rest)))
all_stay_handed done c t (op ∷ ops) result new stay (true, Err why, mid, takes, (is, answer, same)) =
    absurd (true≢false (sym is))
all_stay_handed done c t (op ∷ ops) result new stay (false, Ok how, mid, takes, rest) =
    all_stay_handed (done + 1) (counted_in c t mid how) mid ops result new (all_stay_taken_op t stay op (Ok how) mid takes) rest
all_stay_handed done c t (op ∷ ops) result new stay (false, Err why, mid, takes, (is, answer, same)) =
    subst AllStay (sym same) (all_stay_taken_op t stay op (Err why) mid takes)

-- and after a chunk
all_stay_unpacked : (t new : TextState) (bytes : List ℕ) (result : Result Unpacked UnpackRefusal) → AllStay t
    → Unpacks t bytes result new → AllStay new
all_stay_unpacked t new bytes result stay (inl (none, (answer, same))) = subst AllStay (sym same) stay
all_stay_unpacked t new bytes result stay (inr (text, ps, chunk, inl (apart, (answer, same)))) =
    subst AllStay (sym same) stay
all_stay_unpacked t new bytes result stay (inr (text, ps, chunk, inr (own, hands))) =
    all_stay_handed 0 nothing_unpacked t (operations_of ps) result new stay hands

pub returns : goal.returns
returns c = record {
  drained = λ t new drained dropped drains. all_stay_drained drains refl;
  taken = λ t new message result text stay takes. all_stay_taken t stay message result new takes;
  taken_op = λ t new op result text stay takes. all_stay_taken_op t stay op result new takes;
  unpacked = λ t new bytes result text stay unpacks. all_stay_unpacked t new bytes result stay unpacks;
  edited = λ t e n text within few stay. all_stay_edited t stay (plan t e) n (own_plan t e) few;
  by_names = λ t new what names result messages text stay edits.
      all_stay_by_names t stay what names (changes_any t what names) result new messages edits;
  forgotten = λ t. All-nil (StaysWaiting t.operations);
}
