-- An own edit's operations have one outcome.
use Rattle.std.proofs.Common.{◌≡◌, ℕ, zero, suc, ◌<◌, List, length, Option, Some, None, Result, Ok, Err, refl, sym}
use Rattle.std.proofs.Common.{ap, subst, ◌∙◌, arith}
use Rattle.looks.specs.declared.refusal.Refusal.{Refusal}
use Rattle.operations.specs.Operation.{Operation}
use Rattle.texts.specs.Outcome.{Edits, Stand, first_refusal}
use Rattle.texts.specs.TextState.{TextState}
use Rattle.texts.specs.declared.edit_refusal.EditRefusal.{EditRefusal}
use Rattle.texts.specs.declared.edit_refusal.EditRefusal.TheVariants.{Whole, Partial}
use Rattle.convergence.specs.Outcomes.{EditsOneWay}

-- the answer and the count that the first refusal tells
abbrev answer_by : ℕ → Option (ℕ × Refusal) → Result ℕ EditRefusal
answer_by all None = Ok all
answer_by all (Some (zero, why)) = Err (Whole why)
answer_by all (Some (suc done, why)) = Err (Partial (suc done) why)

abbrev standing_by : ℕ → Option (ℕ × Refusal) → ℕ
standing_by all None = all
standing_by all (Some stop) = stop.0

partly : (all done : ℕ) (why : Refusal) → 0 < done → answer_by all (Some (done, why)) ≡ Err (Partial done why)
partly all zero why some = absurd (omega arith)
partly all (suc done) why some = refl

module _ (t : TextState) (ops : List Operation) where
  abbrev IsOutcome : Result ℕ EditRefusal → TextState → List (List ℕ) → Type 0
  IsOutcome result new messages = (result ≡ answer_by (length ops) (first_refusal t ops))
      × Stand t ops (standing_by (length ops) (first_refusal t ops)) new messages

  told_by : (result : Result ℕ EditRefusal) (new : TextState) (messages : List (List ℕ))
      (first : Option (ℕ × Refusal)) → first_refusal t ops ≡ first → result ≡ answer_by (length ops) first
      → Stand t ops (standing_by (length ops) first) new messages → IsOutcome result new messages
  told_by result new messages first e answer stand =
      subst (λ (f : Option (ℕ × Refusal)). (result ≡ answer_by (length ops) f)
      × Stand t ops (standing_by (length ops) f) new messages) (sym e) (answer, stand)

  outcome : (result : Result ℕ EditRefusal) (new : TextState) (messages : List (List ℕ))
      → Edits t ops result new messages → IsOutcome result new messages
  outcome (Ok sent) new messages (none, all, stand) =
      told_by (Ok sent) new messages None none (ap Ok all)
      (subst (λ (n : ℕ). Stand t ops n new messages) all stand)
  outcome (Err (Whole why)) new messages (first, stand) =
      told_by (Err (Whole why)) new messages (Some (0, why)) first refl stand
  outcome (Err (Partial done why)) new messages (some, first, stand) =
      told_by (Err (Partial done why)) new messages (Some (done, why)) first
      (sym (partly (length ops) done why some)) stand

pub edit_one_way : EditsOneWay
edit_one_way t new new' ops result result' messages messages' edits edits' =
    let is = outcome t ops result new messages edits in
    let is' = outcome t ops result' new' messages' edits' in
    (is.0 ∙ sym is'.0, is.1.text ∙ sym is'.1.text, is.1.told ∙ sym is'.1.told)
