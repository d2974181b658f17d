-- One operation of the site's own, made and sent, and what an edit of it alone answers.
use Rattle.std.specs.Prelude.{◌≡◌, ℕ, zero, suc, ◌⊎◌, List, [], ◌∷◌, ◌++◌, Some, None, Result, Ok, Err}
use Rattle.looks.specs.declared.refusal.Refusal.{Refusal}
use Rattle.looks.specs.declared.refusal.Refusal.TheVariants.{OutOfMemory, Scattered}
use Rattle.operations.specs.Operation.{Operation, OpKind}
use Rattle.operations.specs.Spelling.{spelling}
use Rattle.texts.specs.Edit.{with_operation}
use Rattle.texts.specs.Outcome.{refusal_for}
use Rattle.texts.specs.TextState.{TextState}
use Rattle.texts.specs.declared.edit_refusal.EditRefusal.{EditRefusal}
use Rattle.texts.specs.declared.edit_refusal.EditRefusal.TheVariants.{Whole, Partial}

-- why an operation wasn't made: what refuses it whatever the memory, or want of memory, before `Scattered`
-- at most
abbrev pub IsWhyNot : TextState → Operation → Refusal → Type 0
IsWhyNot t op why =
    (refusal_for t op.kind ≡ Some why)
    ⊎ ((why ≡ OutOfMemory) × ((refusal_for t op.kind ≡ None) ⊎ (refusal_for t op.kind ≡ Some Scattered)))

-- the site's next operation was made, and its message sent; or it was refused, and nothing changed
abbrev pub SendsOne : TextState → Operation → Result (Unit {0}) Refusal → TextState → (sent sent' : List (List ℕ))
    → Type 0
SendsOne t op (Ok made) new sent sent' =
    (refusal_for t op.kind ≡ None) × (new ≡ with_operation t op) × (sent' ≡ sent ++ spelling op ∷ [])
SendsOne t op (Err why) new sent sent' = IsWhyNot t op why × (new ≡ t) × (sent' ≡ sent)

-- some operation of the site's isn't refused
abbrev pub MayGoOn : TextState → Type 0
MayGoOn t = (kind : OpKind) × (refusal_for t kind ≡ None)

-- what an edit of one operation answers
abbrev pub answer_of_one : Result (Unit {0}) Refusal → Result ℕ EditRefusal
answer_of_one (Ok made) = Ok 1
answer_of_one (Err why) = Err (Whole why)

-- what an edit answers of whose operations so many stand, and the next one was refused
abbrev pub refused_after : ℕ → Refusal → EditRefusal
refused_after zero why = Whole why
refused_after (suc n) why = Partial (suc n) why
