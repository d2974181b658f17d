-- What waits for a text, with one more and without one, and as the room is drained.
use Rattle.std.proofs.Common.{◌≡◌, ℕ, ◌<◌, List, [], ◌∷◌, ◌++◌, Bool, true, false, Contains, Ok, Err, Result, refl}
use Rattle.std.proofs.Common.{sym, ap, subst, ◌∙◌, inl, inr, arith, length-append}
use Rattle.std.specs.Prelude.{◌⊎◌, MatchBool}
use Rattle.std.proofs.lemmas.Bool.{ltb-true}
use Rattle.std.proofs.lemmas.List.Elements.{All-push, Contains-push_cases}
use Rattle.looks.specs.declared.refusal.Refusal.{Refusal}
use Rattle.looks.specs.declared.refusal.Refusal.TheVariants.{RoomFull}
use Rattle.operations.specs.Operation.{Operation}
use Rattle.set_laws.specs.Fronts.{IsHeld}
use Rattle.set_laws.specs.Sets.{AreIdentified}
use Rattle.texts.specs.Draining.{Drains, ends, stops, takes_in, throws_away}
use Rattle.texts.specs.Take.{Enters, HasFate, Stays}
use Rattle.texts.specs.Text.{AreWaitingFor, IsText}
use Rattle.texts.specs.TextState.{TextState, with_room}
use Rattle.texts.specs.declared.fate.Fate.TheVariants.{Wait}
use Rattle.texts.specs.declared.took.Took.{Took}
use Rattle.texts.specs.declared.took.Took.TheVariants.{Waits}
use Rattle.convergence.proofs.OneWay.{text_with_room, text_without}

-- one more has an identity of its own, if none waits under it
identified_with : (room : List Operation) (op : Operation) → AreIdentified room → 0 < op.seq
    → (¬ IsHeld room op.site op.seq) → AreIdentified (room ++ op ∷ [])
identified_with room op known counted unheld = record {
  counted = λ x held. elim (Contains-push_cases room op x held) [
    | inl here ↦ known.counted x here
    | inr is ↦ subst (λ (o : Operation). 0 < o.seq) is counted
  ];
  unique = λ x y held other on at. elim (Contains-push_cases room op x held) [
    | inl here ↦ elim (Contains-push_cases room op y other) [
      | inl there ↦ known.unique x y here there on at
      | inr is ↦ absurd (unheld (named x here is on at))
    ]
    | inr is ↦ elim (Contains-push_cases room op y other) [
      | inl there ↦ absurd (unheld (named y there is (sym on) (sym at)))
      | inr is' ↦ sym is ∙ is'
    ]
  ];
}
  where
    -- one that waits under this identity
    named : {other : Operation} (x : Operation) → Contains room x → op ≡ other → x.site ≡ other.site
        → x.seq ≡ other.seq → IsHeld room op.site op.seq
    named x here is on at =
        (x, here, on ∙ ap (λ (o : Operation). o.site) (sym is), at ∙ ap (λ (o : Operation). o.seq) (sym is))

-- what a test decides
pub by_test : (b : Bool) (P Q : Type 0) → MatchBool b P Q → ((b ≡ true) × P) ⊎ ((b ≡ false) × Q)
by_test true P Q h = inl (refl, h)
by_test false P Q h = inr (refl, h)

-- what enters the room leaves a text that is what its operations define
pub entered : (t : TextState) (op : Operation) (result : Result Took Refusal) (new : TextState)
    → Enters t op result new → HasFate t op Wait → IsText t → IsText new
entered t op result new enters (unheld, (of_it, is_new, verdict)) is =
    let waits = (result ≡ Ok Waits) × (new ≡ with_room t (t.waiting_room ++ op ∷ [])) in
    elim (by_test _ waits (Stays t (Err RoomFull) result new) enters) [
      | inl there_is_a_place ↦
          let place = ltb-true _ _ there_is_a_place.0 in
          let more : AreWaitingFor t.text (t.waiting_room ++ op ∷ []) = record {
            of_text = All-push (λ o. o.text ≡ t.text) t.waiting_room op is.waiting.of_text of_it;
            identified = identified_with t.waiting_room op is.waiting.identified is_new.counted unheld;
            few = omega (arith, place, length-append t.waiting_room (op ∷ []));
          } in
          subst IsText (sym there_is_a_place.1.1) (text_with_room t (t.waiting_room ++ op ∷ []) is more)
      | inr there_is_none ↦ subst IsText (sym there_is_none.1.1) is
    ]

-- draining leaves a text that is what its operations define
pub drained_is_text : {t new : TextState} {drained dropped : ℕ} {stopped : Bool} → Drains t drained dropped stopped new
    → IsText t → IsText new
drained_is_text (ends all) is = is
drained_is_text (stops before after op next judged) is = is
drained_is_text (takes_in before after op next judged taken rest) is = drained_is_text rest taken.is
drained_is_text {t} (throws_away before after op next thrown rest) is =
    drained_is_text rest (text_without t before after op is next)
