use Rattle.std.proofs.Common.{◌≡◌, ℕ, ◌⊎◌, inl, inr, List, [], ◌∷◌, ◌++◌, Bool, true, false, MatchBool, MatchOption}
use Rattle.std.proofs.Common.{Option, Some, None, Result, Ok, Err, refl}
use Rattle.looks.specs.declared.refusal.Refusal.{Refusal}
use Rattle.operations.specs.NameSet.{Range}
use Rattle.operations.specs.Operation.{Operation}
use Rattle.set_laws.specs.Sets.{AreIdentified}
use Rattle.texts.specs.Named.{EditsByNames, EditsByNamesShort, IsLeft, IsMade, changes_any, names_changed, op_by_names}
use Rattle.texts.specs.Named.{refusal_of_names}
use Rattle.texts.specs.Text.{IsText}
use Rattle.texts.specs.TextState.{TextState}
use Rattle.texts.specs.declared.by_names.ByNames.{ByNames}
use Rattle.texts.specs.declared.edit_refusal.EditRefusal.{EditRefusal}
use Rattle.texts.specs.declared.edit_refusal.EditRefusal.TheVariants.{Whole}
use Rattle.convergence.specs.HandedIn.{AccountsFor, made_by_names}
use Rattle.convergence.proofs.Kept.{kept_with_all, same_kept}
use Rattle.convergence.proofs.handed_in.edits_by_names_keep.Goals as goal

module _ (t new : TextState) (what : ByNames) (names : List Range) (result : Result ℕ EditRefusal)
    (messages : List (List ℕ)) (all : List Operation) (text : IsText t) (keeps : AccountsFor t all) where
  -- what was made is kept
  abbrev IsKept : Type 0
  IsKept = AreIdentified (all ++ made_by_names t what names result)
      → AccountsFor new (all ++ made_by_names t what names result)

  -- nothing is made where it is refused or changes nothing
  kept_left : (answer : Result ℕ EditRefusal) → made_by_names t what names answer ≡ [] → IsLeft t answer result new messages
      → IsKept
  kept_left answer none (is, same, sent) = rw is (rw none (λ known. same_kept t new all keeps same))

  -- one is made where nothing refuses it
  kept_made : (why : Option Refusal)
      → MatchOption why (IsMade t (op_by_names t what names) result new messages)
      (λ r. IsLeft t (Err (Whole r)) result new messages)
      → IsKept
  kept_made None (answer, has, sent) =
      rw answer (kept_with_all t new (op_by_names t what names ∷ []) all text keeps has)
  kept_made (Some r) left = kept_left (Err (Whole r)) refl left

  -- and it changes something
  kept_edited : (any : Bool)
      → MatchBool any
      (MatchOption (refusal_of_names t (names_changed t what names)) (IsMade t (op_by_names t what names) result new messages)
      (λ why. IsLeft t (Err (Whole why)) result new messages))
      (IsLeft t (Ok 0) result new messages)
      → IsKept
  kept_edited true made = kept_made (refusal_of_names t (names_changed t what names)) made
  kept_edited false left = kept_left (Ok 0) refl left

  kept_by_names : EditsByNames what names t result new messages ⊎ EditsByNamesShort what names t result new messages → IsKept
  kept_by_names (inl edits) = kept_edited (changes_any t what names) edits
  kept_by_names (inr (any, why, left)) = kept_left _ refl left

pub returns : goal.returns
returns c = λ t new what names result messages all text keeps edits.
    kept_by_names t new what names result messages all text keeps edits
