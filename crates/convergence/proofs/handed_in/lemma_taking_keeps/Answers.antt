use Rattle.std.proofs.Common.{ℕ, ◌⊎◌, inl, inr, List, [], ◌∷◌, ◌++◌, Bool, true, false}
use Rattle.std.proofs.Common.{MatchBool, Result, subst}
use Rattle.looks.specs.declared.refusal.Refusal.{Refusal}
use Rattle.operations.specs.Operation.{Operation}
use Rattle.set_laws.specs.Sets.{AreIdentified}
use Rattle.texts.specs.Take.{Takes, TakesShort, Encodes}
use Rattle.texts.specs.Text.{IsText}
use Rattle.texts.specs.TextState.{TextState}
use Rattle.texts.specs.declared.took.Took.{Took}
use Rattle.convergence.specs.HandedIn.{AccountsFor, KeptByTakingOps, is_handed_in}
use Rattle.convergence.proofs.Fates.{one_told}
use Rattle.convergence.proofs.handed_in.lemma_taking_keeps.Goals as goal

-- all is kept, with the operation that the message tells where it counts
abbrev IsKeptWith : List ℕ → List Operation → Bool → TextState → Type 0
IsKeptWith message all counts new = MatchBool counts
    ((op : Operation) → Encodes message op → AreIdentified (all ++ op ∷ []) → AccountsFor new (all ++ op ∷ []))
    (AccountsFor new all)

module _ (taking : KeptByTakingOps) (t new : TextState) (message : List ℕ) (result : Result Took Refusal)
    (all : List Operation) (text : IsText t) (keeps : AccountsFor t all) where
  -- a message tells one operation
  kept_if_told : (op : Operation) → Encodes message op → (counts : Bool)
      → MatchBool counts (AreIdentified (all ++ op ∷ []) → AccountsFor new (all ++ op ∷ [])) (AccountsFor new all)
      → IsKeptWith message all counts new
  kept_if_told op told true kept = λ other told'.
      subst (λ (o : Operation). AreIdentified (all ++ o ∷ []) → AccountsFor new (all ++ o ∷ []))
      (one_told message op other told told') kept
  kept_if_told op told false kept = kept

  -- whatever the message tells
  kept_by_taking : Takes t message result new ⊎ TakesShort t message result new
      → IsKeptWith message all (is_handed_in result) new
  kept_by_taking (inl (inl (none, (answer, same)))) = rw answer (rw same keeps)
  kept_by_taking (inl (inr (op, fate, told, has, becomes))) =
      kept_if_told op told (is_handed_in result)
      (taking t new op result all text keeps (inl (fate, has, becomes)))
  kept_by_taking (inr (inl (some, (answer, same)))) = rw answer (rw same keeps)
  kept_by_taking (inr (inr (op, told, has, takes))) =
      kept_if_told op told (is_handed_in result)
      (taking t new op result all text keeps (inr (inr (has, inl takes))))

pub returns : goal.returns
returns c = λ t new message result all text keeps takes.
    kept_by_taking c.lemma_taking_operations_keeps.ensures t new message result all text keeps takes
