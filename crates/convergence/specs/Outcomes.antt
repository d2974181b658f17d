-- What a call does is one thing: the answer and the text afterwards are told by the text, what was asked, and where
-- memory was refused.
use Rattle.std.specs.Prelude.{◌≡◌, ℕ, List, true, false, Result}
use Rattle.looks.specs.declared.refusal.Refusal.{Refusal}
use Rattle.operations.specs.Operation.{Operation}
use Rattle.texts.specs.Draining.{Drains}
use Rattle.texts.specs.Merge.{Merges, MergesShort}
use Rattle.texts.specs.Outcome.{Edits}
use Rattle.texts.specs.Take.{Takes, TakesShort}
use Rattle.texts.specs.Text.{IsText}
use Rattle.texts.specs.TextState.{TextState}
use Rattle.texts.specs.declared.edit_refusal.EditRefusal.{EditRefusal}
use Rattle.texts.specs.declared.merge_refusal.MergeRefusal.{MergeRefusal}
use Rattle.texts.specs.declared.took.Took.{Took}

-- one draining: where it wasn't stopped, the counts and the text; where it was, the text of these counts
pub record DrainsOneWay : Type 0 where
  pub whole : (t new new' : TextState) (n n' m m' : ℕ) → IsText t → Drains t n m false new
      → Drains t n' m' false new' → (n ≡ n') × (m ≡ m') × (new ≡ new')
  pub stopped : (t new new' : TextState) (n m : ℕ) → IsText t → Drains t n m true new → Drains t n m true new'
      → new ≡ new'

-- one answer to a message, and one text; where memory was refused, one text of this answer
pub record TakesOneWay : Type 0 where
  pub whole : (t new new' : TextState) (message : List ℕ) (result result' : Result Took Refusal) → IsText t
      → Takes t message result new → Takes t message result' new' → (result ≡ result') × (new ≡ new')
  pub short : (t new new' : TextState) (message : List ℕ) (result : Result Took Refusal) → IsText t
      → TakesShort t message result new → TakesShort t message result new' → new ≡ new'

-- one merge; where memory was refused, one text of this answer
pub record MergesOneWay : Type 0 where
  pub whole : (t other new new' : TextState) (result result' : Result ℕ MergeRefusal) → IsText t
      → Merges t other result new → Merges t other result' new' → (result ≡ result') × (new ≡ new')
  pub short : (t other new new' : TextState) (result : Result ℕ MergeRefusal) → IsText t
      → MergesShort t other result new → MergesShort t other result new' → new ≡ new'

-- one outcome of an own edit's operations: the answer, the text and the messages
abbrev pub EditsOneWay : Type 0
EditsOneWay = (t new new' : TextState) (ops : List Operation) (result result' : Result ℕ EditRefusal)
    (messages messages' : List (List ℕ)) → Edits t ops result new messages → Edits t ops result' new' messages'
    → (result ≡ result') × (new ≡ new') × (messages ≡ messages')
