-- An edit of a text by names: it leaves the text as it was, or takes one operation in, and has one reply.
use Rattle.std.proofs.Common.{◌≡◌, ℕ, Bool, true, false, List, Option, Some, None, Result, Ok, Err, inl, inr, refl, sym, ap, subst, ◌∙◌}
use Rattle.std.specs.Prelude.{◌⊎◌, MatchBool, MatchOption}
use Rattle.looks.specs.declared.refusal.Refusal.{Refusal}
use Rattle.looks.specs.declared.refusal.Refusal.TheVariants.{OutOfMemory, OutOfRange}
use Rattle.operations.specs.NameSet.{Range}
use Rattle.texts.specs.Named.{EditsByNames, IsLeft, IsMade, are_here, changes_any, names_changed, op_by_names, refusal_of_names}
use Rattle.texts.specs.Taking.{HasTaken}
use Rattle.texts.specs.Text.{IsText}
use Rattle.texts.specs.TextState.{TextState}
use Rattle.texts.specs.declared.by_names.ByNames.{ByNames}
use Rattle.texts.specs.declared.edit_refusal.EditRefusal.{EditRefusal}
use Rattle.texts.specs.declared.edit_refusal.EditRefusal.TheVariants.{Whole}
use Rattle.texts.proofs.Taking.{taken_is_one}
use Rattle.machine.specs.Events.{Reply, edit_reply, refuses}
use Rattle.machine.specs.OnTexts.{EditsNames, EditsNamesShort}
use Rattle.machine_laws.proofs.Rooms.{by_test}

module _ (what : ByNames) (names : List Range) where
  -- it was made, and wasn't refused; or nothing was done
  abbrev pub IsMadeOrLeft : TextState → TextState → Type 0
  IsMadeOrLeft t new =
      ((refusal_of_names t (names_changed t what names) ≡ None) × HasTaken t (op_by_names t what names) new) ⊎ (new ≡ t)

  by_refusal : (t new : TextState) (result : Result ℕ EditRefusal) (messages : List (List ℕ)) (refusal : Option Refusal)
      → refusal_of_names t (names_changed t what names) ≡ refusal
      → MatchOption refusal (IsMade t (op_by_names t what names) result new messages)
      (λ why. IsLeft t (Err (Whole why)) result new messages) → IsMadeOrLeft t new
  by_refusal t new result messages None is done = inl (is, done.1)
  by_refusal t new result messages (Some why) is done = inr done.1

  by_change : (t new : TextState) (result : Result ℕ EditRefusal) (messages : List (List ℕ))
      → EditsByNames what names t result new messages → IsMadeOrLeft t new
  by_change t new result messages done =
      elim (by_test (changes_any t what names) _ _ done) [
        | inl some ↦ by_refusal t new result messages (refusal_of_names t (names_changed t what names)) refl some.1
        | inr none ↦ inr none.1.1
      ]

  pub made_or_left : (r : Reply) (t new : TextState) → EditsNames what names r t new → IsMadeOrLeft t new
  made_or_left r t new does =
      elim (by_test (are_here t names) _ _ does) [
        | inl here ↦ let (result, messages, done, replied) = here.1 in by_change t new result messages done
        | inr absent ↦ inr absent.1.1
      ]

  -- where memory was refused nothing was done
  pub left_short : (r : Reply) (t new : TextState) → EditsNamesShort what names r t new → (r ≡ refuses OutOfMemory) × (new ≡ t)
  left_short r t new (here, (result, messages, (some, which, left), replied)) =
      (replied ∙ ap (λ (a : Result ℕ EditRefusal). edit_reply a messages) left.0, left.1)

  -- it leaves the text what its operations define
  pub named_text : (r : Reply) (t new : TextState) → EditsNames what names r t new → IsText t → IsText new
  named_text r t new does is =
      elim (made_or_left r t new does) [
        | inl made ↦ made.1.is
        | inr same ↦ subst IsText (sym same) is
      ]

  pub named_text_short : (r : Reply) (t new : TextState) → EditsNamesShort what names r t new → IsText t → IsText new
  named_text_short r t new short is = subst IsText (sym (left_short r t new short).1) is

  -- what is told of two that are replied to
  abbrev AreOne : (a b : Result ℕ EditRefusal) → (u v : TextState) → (m n : List (List ℕ)) → Type 0
  AreOne a b u v m n = (a ≡ b) × (u ≡ v) × (m ≡ n)

  one_left : (t u v : TextState) (answer a b : Result ℕ EditRefusal) (m n : List (List ℕ)) → IsLeft t answer a u m
      → IsLeft t answer b v n → AreOne a b u v m n
  one_left t u v answer a b m n left left' = (left.0 ∙ sym left'.0, left.1 ∙ sym left'.1, left.2 ∙ sym left'.2)

  one_by_refusal : (t u v : TextState) (a b : Result ℕ EditRefusal) (m n : List (List ℕ)) (refusal : Option Refusal) → IsText t
      → MatchOption refusal (IsMade t (op_by_names t what names) a u m) (λ why. IsLeft t (Err (Whole why)) a u m)
      → MatchOption refusal (IsMade t (op_by_names t what names) b v n) (λ why. IsLeft t (Err (Whole why)) b v n)
      → AreOne a b u v m n
  one_by_refusal t u v a b m n None is made made' = (
    made.0 ∙ sym made'.0,
    taken_is_one t (op_by_names t what names) is refl v made'.1.grown made'.1.is u made.1,
    made.2 ∙ sym made'.2,
  )
  one_by_refusal t u v a b m n (Some why) is left left' = one_left t u v (Err (Whole why)) a b m n left left'

  one_by_change : (t u v : TextState) (a b : Result ℕ EditRefusal) (m n : List (List ℕ)) (any : Bool) → IsText t
      → MatchBool any
      (MatchOption (refusal_of_names t (names_changed t what names)) (IsMade t (op_by_names t what names) a u m)
      (λ why. IsLeft t (Err (Whole why)) a u m)) (IsLeft t (Ok 0) a u m)
      → MatchBool any
      (MatchOption (refusal_of_names t (names_changed t what names)) (IsMade t (op_by_names t what names) b v n)
      (λ why. IsLeft t (Err (Whole why)) b v n)) (IsLeft t (Ok 0) b v n)
      → AreOne a b u v m n
  one_by_change t u v a b m n true is done done' =
      one_by_refusal t u v a b m n (refusal_of_names t (names_changed t what names)) is done done'
  one_by_change t u v a b m n false is left left' = one_left t u v (Ok 0) a b m n left left'

  -- it has one reply
  pub one_named : (r r' : Reply) (t u v : TextState) → IsText t → EditsNames what names r t u → EditsNames what names r' t v
      → (r ≡ r') × (u ≡ v)
  one_named r r' t u v is = by (are_here t names)
    where
      by : (here : Bool)
          → MatchBool here ((a : Result ℕ EditRefusal) × (m : List (List ℕ)) × EditsByNames what names t a u m × (r ≡ edit_reply a m))
          ((r ≡ refuses OutOfRange) × (u ≡ t))
          → MatchBool here ((a : Result ℕ EditRefusal) × (m : List (List ℕ)) × EditsByNames what names t a v m × (r' ≡ edit_reply a m))
          ((r' ≡ refuses OutOfRange) × (v ≡ t))
          → (r ≡ r') × (u ≡ v)
      by true (a, m, done, replied) (b, n, done', replied') =
          let same = one_by_change t u v a b m n (changes_any t what names) is done done' in
          (replied ∙ (λ k. edit_reply (same.0 k) (same.2 k)) ∙ sym replied', same.1)
      by false left left' = (left.0 ∙ sym left'.0, left.1 ∙ sym left'.1)

  -- and where memory was refused
  pub one_named_short : (r r' : Reply) (t u v : TextState) → EditsNamesShort what names r t u → EditsNamesShort what names r' t v
      → (r ≡ r') × (u ≡ v)
  one_named_short r r' t u v short short' =
      let a = left_short r t u short in
      let b = left_short r' t v short' in
      (a.0 ∙ sym b.0, a.1 ∙ sym b.1)
