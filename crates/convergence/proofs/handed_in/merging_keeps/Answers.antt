use Rattle.std.proofs.Common.{ℕ, inl, inr, List, ◌++◌, take, Result, Ok, Err}
use Rattle.looks.specs.declared.refusal.Refusal.TheVariants.{Conflict, WrongText}
use Rattle.operations.specs.Operation.{Operation}
use Rattle.set_laws.specs.Sets.{AreIdentified}
use Rattle.texts.specs.Merge.{Merges, MergesShort, news}
use Rattle.texts.specs.Text.{IsText}
use Rattle.texts.specs.TextState.{TextState}
use Rattle.texts.specs.declared.merge_refusal.MergeRefusal.{MergeRefusal}
use Rattle.texts.specs.declared.merge_refusal.MergeRefusal.TheVariants.{Whole, Stopped}
use Rattle.convergence.specs.HandedIn.{AccountsFor, merged}
use Rattle.convergence.proofs.Kept.{kept_with_all, same_kept}
use Rattle.convergence.proofs.handed_in.merging_keeps.Goals as goal

module _ (t other new : TextState) (all : List Operation) (text : IsText t)
    (keeps : AccountsFor t all) where
  -- all is kept where memory is there
  kept : (result : Result ℕ MergeRefusal) → Merges t other result new
      → AreIdentified (all ++ merged t other result) → AccountsFor new (all ++ merged t other result)
  kept (Ok count) (can, counted, has) known =
      kept_with_all t new (news t other) all text keeps has known
  kept (Err (Whole WrongText)) (apart, same) known = same_kept t new all keeps same
  kept (Err (Whole Conflict)) (on, conflict, same) known = same_kept t new all keeps same
  kept (Err (Whole why)) never known = absurd never
  kept (Err (Stopped done)) never known = absurd never

  -- and where it was refused
  kept_short : (result : Result ℕ MergeRefusal) → MergesShort t other result new
      → AreIdentified (all ++ merged t other result) → AccountsFor new (all ++ merged t other result)
  kept_short (Err (Stopped done)) (can, less, has) known =
      kept_with_all t new (take done (news t other)) all text keeps has known
  kept_short result never known = absurd never

pub returns : goal.returns
returns c = λ t other new result all text text' keeps merges known. elim merges [
  | inl whole ↦ kept t other new all text keeps result whole known
  | inr short ↦ kept_short t other new all text keeps result short known
]
