-- What is ready, where nothing waits, is taken in, and nothing waits then.
use Rattle.std.proofs.Common.{◌≡◌, ◌≢◌, ℕ, List, [], ◌∷◌, ◌++◌, inl, inr, Bool, true, false, Result, Ok, Err, refl, sym, ap, subst, ◌∙◌, ◌⊎◌, Contains, arith, append_assoc}
use Rattle.std.proofs.lemmas.List.{append-nil}
use Rattle.looks.specs.declared.refusal.Refusal.{Refusal}
use Rattle.looks.specs.declared.refusal.Refusal.TheVariants.{OutOfMemory}
use Rattle.operations.specs.Operation.{Operation}
use Rattle.set_laws.specs.Fronts.{IsHeld}
use Rattle.set_laws.specs.Verdict.{ready}
use Rattle.texts.specs.Draining.{Drains, ends, stops, takes_in, throws_away}
use Rattle.texts.specs.Take.{Becomes, HasFate, TakesIn, TakesOp, TakesOpShort}
use Rattle.texts.specs.Taking.{IsJudged}
use Rattle.texts.specs.Text.{IsText}
use Rattle.texts.specs.TextState.{TextState}
use Rattle.texts.specs.declared.fate.Fate.{Fate}
use Rattle.texts.specs.declared.fate.Fate.TheVariants.{Wait, Ready}
use Rattle.texts.specs.declared.took.Took.{Took}
use Rattle.convergence.proofs.Fates.{same_fate}
use Rattle.note_replicas.specs.Following.{Advances, HasTakenJust, IsOfPlace}

-- a list with an element in it isn't empty
not_empty : (before after : List Operation) (op : Operation) → [] ≢ before ++ op ∷ after
not_empty [] after op same = absurd (cc)
not_empty (b ∷ before) after op same = absurd (cc)

-- an empty room drains into nothing
drains_nothing : {t new : TextState} {drained dropped : ℕ} {stopped : Bool} → t.waiting_room ≡ []
    → Drains t drained dropped stopped new → new ≡ t
drains_nothing none (ends stay) = refl
drains_nothing none (stops before after op next is) = absurd (not_empty before after op (sym none ∙ next.room))
drains_nothing none (takes_in before after op next is taken rest) = absurd (not_empty before after op (sym none ∙ next.room))
drains_nothing none (throws_away before after op next is rest) = absurd (not_empty before after op (sym none ∙ next.room))

none_in : (op : Operation) → ¬ Contains [] op
none_in op (i, below, same) = absurd (omega (arith, below))

same_err : (a b : Refusal) → ◌≡◌ {A = Result Took Refusal} (Err a) (Err b) → a ≡ b
same_err a b e = cc

-- what stays as it is goes on
pub on_itself : (t new : TextState) → new ≡ t → Advances t new
on_itself t new same = record {
  more = [];
  taken = ap (λ (u : TextState). u.operations) same ∙ sym (append-nil t.operations);
  asked = ap (λ (u : TextState). u.asked) same;
}

-- what goes on twice goes on
pub on_then : (t u v : TextState) → Advances t u → Advances u v → Advances t v
on_then t u v first next = record {
  more = first.more ++ next.more;
  taken = next.taken ∙ ap (λ (ops : List Operation). ops ++ next.more) first.taken
      ∙ append_assoc t.operations first.more next.more;
  asked = next.asked ∙ first.asked;
}

module _ (t new : TextState) (op : Operation) (is : IsText t) (judged : IsJudged t op ready) (none : t.waiting_room ≡ []) where
  -- nothing waits under its identity
  none_under : ¬ IsHeld t.waiting_room op.site op.seq
  none_under (other, there, on, at) = none_in other (subst (λ (room : List Operation). Contains room other) none there)

  its_fate : HasFate t op Ready
  its_fate = (none_under, judged)

  -- it was taken in
  taken : (stopped : Bool) (result : Result Took Refusal) → TakesIn t op stopped result new
      → HasTakenJust new (t.operations ++ op ∷ []) × IsOfPlace t new × Advances t new
  taken stopped result (with_op, drained, dropped, has, drains, answer) =
      let grown = has.grown in
      let same : new ≡ with_op = drains_nothing (ap (λ (u : TextState). u.waiting_room) grown ∙ none) drains in
      let all = same ∙ grown in (
        record { taken = ap (λ (u : TextState). u.operations) all; none_waits = ap (λ (u : TextState). u.waiting_room) all ∙ none },
        record { text = ap (λ (u : TextState). u.text) all; site = ap (λ (u : TextState). u.site) all },
        record { more = op ∷ []; taken = ap (λ (u : TextState). u.operations) all; asked = ap (λ (u : TextState). u.asked) all },
      )

  -- an answer says that it was taken in
  pub taken_in : (took : Took) → (TakesOp t op (Ok took) new ⊎ TakesOpShort t op (Ok took) new)
      → HasTakenJust new (t.operations ++ op ∷ []) × IsOfPlace t new × Advances t new
  taken_in took (inl (fate, has, becomes)) =
      let same : fate ≡ Ready = same_fate t op is fate Ready has its_fate in
      taken false (Ok took) (subst (λ (f : Fate). Becomes t op f (Ok took) new) same becomes)
  taken_in took (inr (inl (has, stays))) = absurd (cc)
  taken_in took (inr (inr (has, inl takes))) = taken true (Ok took) takes
  taken_in took (inr (inr (has, inr stays))) = absurd (cc)

  -- a refusal says that there was no memory, and nothing changed
  pub refused : (why : Refusal) → (TakesOp t op (Err why) new ⊎ TakesOpShort t op (Err why) new)
      → (why ≡ OutOfMemory) × (new ≡ t)
  refused why (inl (fate, has, becomes)) =
      let same : fate ≡ Ready = same_fate t op is fate Ready has its_fate in
      let takes = subst (λ (f : Fate). Becomes t op f (Err why) new) same becomes in
      let answer = takes.5 in absurd (cc)
  refused why (inr (inl (has, stays))) =
      let same : Wait ≡ Ready = same_fate t op is Wait Ready has its_fate in absurd (cc)
  refused why (inr (inr (has, inl takes))) = let answer = takes.5 in absurd (cc)
  refused why (inr (inr (has, inr stays))) = (same_err why OutOfMemory stays.0, stays.1)
