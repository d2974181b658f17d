-- Operations that are taken in where nothing waits, one after the other.
use Rattle.std.proofs.Common.{◌≡◌, ℕ, ◌⊎◌, inl, inr, List, [], ◌∷◌, ◌++◌, length}
use Rattle.std.proofs.Common.{Bool, true, false, Result, Ok, Err, refl, sym, ap, subst, ◌∙◌, arith}
use Rattle.std.proofs.Common.{length-append, nat_lt}
use Rattle.std.specs.Prelude.{Contains, IfErr, IsErrOf, MatchBool, OnOk}
use Rattle.looks.specs.declared.refusal.Refusal.{Refusal}
use Rattle.looks.specs.declared.refusal.Refusal.TheVariants.{BadFile, OutOfMemory}
use Rattle.operations.specs.Operation.{Operation}
use Rattle.set_laws.specs.Verdict.{Verdict, wait, misfit, low_stamp, ready}
use Rattle.set_laws.proofs.Verdicts.{same_verdict}
use Rattle.waiting_room.specs.declared.room.TheConstants.{MAX_WAITING}
use Rattle.texts.specs.Draining.{Drains, IsNextOut, ends, stops, takes_in, throws_away}
use Rattle.texts.specs.Take.{Becomes, HasFate, TakesIn, TakesOp, TakesOpShort}
use Rattle.texts.specs.Taking.{HasTaken, HasTakenAll, IsJudged}
use Rattle.texts.specs.TextState.{TextState}
use Rattle.texts.specs.declared.fate.Fate.{Fate}
use Rattle.texts.specs.declared.fate.Fate.TheVariants.{OtherText, Known, Conflicting, AlreadyWaits, Wait}
use Rattle.texts.specs.declared.fate.Fate.TheVariants.{Misfit, LowStamp, Ready}
use Rattle.texts.specs.declared.took.Took.{Took}
use Rattle.texts.specs.declared.took.Took.TheVariants.{Taken, Repeat, Waits}
use Rattle.kept_file.specs.Parts.{WasTaken}

-- ---- where nothing waits, nothing is drained

none_before : (xs ys : List Operation) (op : Operation) → ◌≡◌ {A = List Operation} [] (xs ++ op ∷ ys) → ⊥
none_before xs ys op e = absurd (omega (arith, ap length e, length-append xs (op ∷ ys)))

not_next : (t : TextState) (before after : List Operation) (op : Operation) → t.waiting_room ≡ []
    → IsNextOut t before op after → ⊥
not_next t before after op empty next = none_before before after op (sym empty ∙ next.room)

nothing_drained : (t new : TextState) (drained dropped : ℕ) (stopped : Bool) → t.waiting_room ≡ []
    → Drains t drained dropped stopped new → new ≡ t
nothing_drained t new drained dropped stopped empty (ends stay) = refl
nothing_drained t new drained dropped stopped empty (stops before after op next judged) =
    absurd (not_next t before after op empty next)
nothing_drained t new drained dropped stopped empty (takes_in before after op next judged taken drains) =
    absurd (not_next t before after op empty next)
nothing_drained t new drained dropped stopped empty (throws_away before after op next thrown drains) =
    absurd (not_next t before after op empty next)

-- the room stays as it is where operations are taken in
pub same_room : (t new : TextState) (ops : List Operation) → HasTakenAll t ops new → new.waiting_room ≡ t.waiting_room
same_room t new ops taken = ap (λ (u : TextState). u.waiting_room) taken.grown

-- ---- what was done where the answer is that it was taken in

abbrev pub taken_so : ℕ → ℕ → Bool → Result Took Refusal
taken_so drained dropped stopped = Ok (Taken drained dropped stopped)

-- it was taken in, and nothing else was done
only_taken : (t new : TextState) (op : Operation) (result : Result Took Refusal) (stopped : Bool) → t.waiting_room ≡ []
    → TakesIn t op stopped result new → HasTaken t op new
only_taken t new op result stopped empty (with_op, drained, dropped, taken, drains, is) =
    subst (λ (u : TextState). HasTaken t op u)
    (sym (nothing_drained with_op new drained dropped stopped (same_room t with_op (op ∷ []) taken ∙ empty) drains))
    taken

entered : (b : Bool) (P Q : Type 0) → MatchBool b P Q → P ⊎ Q
entered true P Q p = inl p
entered false P Q q = inr q

by_fate : (t new : TextState) (op : Operation) (fate : Fate) (drained dropped : ℕ) (stopped : Bool)
    → t.waiting_room ≡ [] → Becomes t op fate (taken_so drained dropped stopped) new → HasTaken t op new
by_fate t new op OtherText drained dropped stopped empty stays = let is = stays.0 in absurd cc
by_fate t new op Known drained dropped stopped empty stays = let is = stays.0 in absurd cc
by_fate t new op Conflicting drained dropped stopped empty stays = let is = stays.0 in absurd cc
by_fate t new op AlreadyWaits drained dropped stopped empty stays = let is = stays.0 in absurd cc
by_fate t new op Wait drained dropped stopped empty enters =
    elim (entered (nat_lt (length t.waiting_room) MAX_WAITING) _ _ enters) [
      | inl waits ↦ let is = waits.0 in absurd cc
      | inr full ↦ let is = full.0 in absurd cc
    ]
by_fate t new op Misfit drained dropped stopped empty stays = let is = stays.0 in absurd cc
by_fate t new op LowStamp drained dropped stopped empty stays = let is = stays.0 in absurd cc
by_fate t new op Ready drained dropped stopped empty takes = only_taken t new op _ false empty takes

-- the operation was taken in
pub next_taken : (t new : TextState) (op : Operation) (drained dropped : ℕ) (stopped : Bool) → t.waiting_room ≡ []
    → TakesOp t op (taken_so drained dropped stopped) new ⊎ TakesOpShort t op (taken_so drained dropped stopped) new
    → HasTaken t op new
next_taken t new op drained dropped stopped empty (inl (fate, has, becomes)) =
    by_fate t new op fate drained dropped stopped empty becomes
next_taken t new op drained dropped stopped empty (inr (inl (has, out))) = let is = out.1.0 in absurd cc
next_taken t new op drained dropped stopped empty (inr (inr (has, inl takes))) = only_taken t new op _ true empty takes
next_taken t new op drained dropped stopped empty (inr (inr (has, inr stays))) = let is = stays.0 in absurd cc

-- ---- what becomes of an operation that is ready

-- it was taken in, or memory was refused
abbrev pub IsTakenOrShort : Result Took Refusal → Type 0
IsTakenOrShort result =
    (result ≡ Err OutOfMemory) ⊎ ((drained dropped : ℕ) × (stopped : Bool) × (result ≡ taken_so drained dropped stopped))

none_waits : (room : List Operation) (op : Operation) → room ≡ [] → Contains room op → ⊥
none_waits room op empty (k, lt, is) = absurd (omega (arith, lt, ap length empty))

ready_becomes : (t new : TextState) (op : Operation) (fate : Fate) (result : Result Took Refusal)
    → t.waiting_room ≡ [] → IsJudged t op ready → HasFate t op fate → Becomes t op fate result new
    → IsTakenOrShort result
ready_becomes t new op OtherText result empty judged has becomes = absurd (has judged.0)
ready_becomes t new op Known result empty judged has becomes = absurd (judged.1.unheld (op, has.1, refl, refl))
ready_becomes t new op Conflicting result empty judged (own, inl (other, held, site, seq, differs)) becomes =
    absurd (judged.1.unheld (other, held, site, seq))
ready_becomes t new op Conflicting result empty judged (own, inr (is_new, (other, waits, site, seq, differs))) becomes =
    absurd (none_waits t.waiting_room other empty waits)
ready_becomes t new op AlreadyWaits result empty judged has becomes =
    absurd (none_waits t.waiting_room op empty has.2)
ready_becomes t new op Wait result empty judged has becomes =
    let same : ◌≡◌ {A = Verdict} wait ready = same_verdict t.operations op wait ready has.1.2 judged.2 in absurd cc
ready_becomes t new op Misfit result empty judged has becomes =
    let same : ◌≡◌ {A = Verdict} misfit ready = same_verdict t.operations op misfit ready has.1.2 judged.2 in absurd cc
ready_becomes t new op LowStamp result empty judged has becomes =
    let same : ◌≡◌ {A = Verdict} low_stamp ready =
    same_verdict t.operations op low_stamp ready has.1.2 judged.2 in absurd cc
ready_becomes t new op Ready result empty judged has (with_op, drained, dropped, taken, drains, is) =
    inr (drained, dropped, false, is)

pub ready_taken : (t new : TextState) (op : Operation) (result : Result Took Refusal)
    → t.waiting_room ≡ [] → IsJudged t op ready → TakesOp t op result new ⊎ TakesOpShort t op result new
    → IsTakenOrShort result
ready_taken t new op result empty judged (inl (fate, has, becomes)) =
    ready_becomes t new op fate result empty judged has becomes
ready_taken t new op result empty judged (inr (inl (has, out))) = inl out.1.0
ready_taken t new op result empty judged (inr (inr (has, inl takes))) =
    let (with_op, drained, dropped, taken, drains, is) = takes in inr (drained, dropped, true, is)
ready_taken t new op result empty judged (inr (inr (has, inr stays))) = inl stays.0

-- so one that wasn't, and wasn't refused for memory, wasn't ready
not_taken : (took : Took) → (¬ WasTaken took) → IsTakenOrShort (Ok took) → ⊥
not_taken took none (inl short) = absurd cc
not_taken took none (inr (drained, dropped, stopped, taken)) =
    let is : took ≡ Taken drained dropped stopped = cc in none (subst WasTaken (sym is) tt)

refused_for_memory : (why : Refusal) → IsTakenOrShort (Err why) → why ≡ OutOfMemory
refused_for_memory why (inl short) = cc
refused_for_memory why (inr (drained, dropped, stopped, taken)) = absurd cc

-- ---- what is answered then

module _ (t new : TextState) (op : Operation) (empty : t.waiting_room ≡ []) where
  pub taken_next : (took : Took) (r : Result (Unit {0}) Refusal)
      → TakesOp t op (Ok took) new ⊎ TakesOpShort t op (Ok took) new → OnOk r (WasTaken took) → OnOk r (HasTaken t op new)
  taken_next (Taken drained dropped stopped) (Ok done) takes is =
      next_taken t new op drained dropped stopped empty takes
  taken_next Repeat (Ok done) takes is = absurd is
  taken_next Waits (Ok done) takes is = absurd is
  taken_next took (Err why) takes is = tt

  pub none_ready : (took : Took) (r : Result (Unit {0}) Refusal)
      → TakesOp t op (Ok took) new ⊎ TakesOpShort t op (Ok took) new
      → IfErr r (λ e. (e ≡ BadFile) × (¬ WasTaken took)) → IsErrOf r BadFile → IsJudged t op ready → ⊥
  none_ready took (Ok done) takes is bad judged = absurd cc
  none_ready took (Err why) takes is bad judged =
      not_taken took is.1 (ready_taken t new op (Ok took) empty judged takes)

  pub none_ready_refused : (why given : Refusal) → TakesOp t op (Err why) new ⊎ TakesOpShort t op (Err why) new
      → (why ≡ OutOfMemory → given ≡ OutOfMemory) → given ≡ BadFile → IsJudged t op ready → ⊥
  none_ready_refused why given takes short bad judged =
      let memory : given ≡ OutOfMemory =
      short (refused_for_memory why (ready_taken t new op (Err why) empty judged takes)) in
      let apart : ◌≡◌ {A = Refusal} OutOfMemory BadFile = sym memory ∙ bad in absurd cc
