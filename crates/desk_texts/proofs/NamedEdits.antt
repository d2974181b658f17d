-- From an edit by names of a replica to one of a desk's text.
use Rattle.std.proofs.Common.{◌≡◌, ℕ, Bool, true, false, List, [], ◌++◌, length, Option, Some, None, Result, Ok, Err, refl, sym, ap, ◌∙◌, append-nil, inl, inr}
use Rattle.std.specs.Prelude.{IfOk, MatchBool, MatchOption}
use Rattle.looks.specs.declared.refusal.Refusal.{Refusal}
use Rattle.looks.specs.declared.refusal.Refusal.TheVariants.{OutOfMemory, OutOfRange}
use Rattle.operations.specs.NameSet.{Range}
use Rattle.texts.specs.Named.{EditsByNamesSending, IsLeft, IsMade, are_here, changes_any, names_changed, op_by_names}
use Rattle.texts.specs.Named.{refusal_of_names}
use Rattle.texts.specs.TextState.{TextState}
use Rattle.texts.specs.declared.by_names.ByNames.{ByNames}
use Rattle.texts.specs.declared.edit_refusal.EditRefusal.{EditRefusal}
use Rattle.texts.specs.declared.edit_refusal.EditRefusal.TheVariants.{Whole}
use Rattle.machine.specs.Events.{edit_reply, messages_of}
use Rattle.machine.specs.OnTexts.{EditsNamesSending}

-- an edit that was done tells how many messages it sent, and the reply tells them
abbrev AreTold : Result ℕ EditRefusal → List (List ℕ) → Type 0
AreTold result messages = IfOk result (λ count. count ≡ length messages) × (messages ≡ messages_of (edit_reply result messages))

module _ (t : TextState) (what : ByNames) (names : List Range) (new : TextState) (result : Result ℕ EditRefusal)
    (messages : List (List ℕ)) where
  made_told : IsMade t (op_by_names t what names) result new messages → AreTold result messages
  made_told made = rw (made.0, made.2) (refl, refl)

  none_told : IsLeft t (Ok 0) result new messages → AreTold result messages
  none_told left = rw (left.0, left.2) (refl, refl)

  refused_told : (why : Refusal) → IsLeft t (Err (Whole why)) result new messages → AreTold result messages
  refused_told why left = rw (left.0, left.2) (tt, refl)

  by_refusal : (refusal : Option Refusal) → MatchOption refusal (IsMade t (op_by_names t what names) result new messages)
      (λ why. IsLeft t (Err (Whole why)) result new messages) → AreTold result messages
  by_refusal None made = made_told made
  by_refusal (Some why) left = refused_told why left

  by_change : (any : Bool)
      → MatchBool any
      (MatchOption (refusal_of_names t (names_changed t what names)) (IsMade t (op_by_names t what names) result new messages)
      (λ why. IsLeft t (Err (Whole why)) result new messages)) (IsLeft t (Ok 0) result new messages)
      → AreTold result messages
  by_change true done = by_refusal (refusal_of_names t (names_changed t what names)) done
  by_change false left = none_told left

-- what the replica's edit promises is what the desk's owes of its text
pub named_edited : (t : TextState) (what : ByNames) (names : List Range) (result : Result ℕ EditRefusal) (new : TextState)
    (sent sent' : List (List ℕ)) → are_here t names ≡ true → EditsByNamesSending t what names result new sent sent'
    → EditsNamesSending t what names result new sent sent'
named_edited t what names result new sent sent' here (messages, sent_is, inl done) =
    let told = by_change t what names new result messages (changes_any t what names) done in (
      messages,
      told.0,
      sent_is ∙ ap (λ (m : List (List ℕ)). sent ++ m) told.1,
      inl (rw here (result, messages, done, refl)),
    )
named_edited t what names result new sent sent' here (messages, sent_is, inr short) =
    let told = refused_told t what names new result messages OutOfMemory short.2 in (
      messages,
      told.0,
      sent_is ∙ ap (λ (m : List (List ℕ)). sent ++ m) told.1,
      inr (here, (result, messages, short, refl)),
    )

-- a name that isn't here is refused, and nothing is done
pub not_here : (t : TextState) (what : ByNames) (names : List Range) (sent : List (List ℕ)) → are_here t names ≡ false
    → EditsNamesSending t what names (Err (Whole OutOfRange)) t sent sent
not_here t what names sent absent = ([], tt, sym (append-nil sent), inl (rw absent (refl, refl)))
