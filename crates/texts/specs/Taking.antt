-- A text with operations more, which stand after those taken in.
use Rattle.std.specs.Prelude.{◌≡◌, List, [], ◌∷◌, ◌++◌}
use Rattle.operations.specs.Operation.{Operation}
use Rattle.set_laws.specs.Verdict.{Verdict, IsNew, HasVerdict}
use Rattle.texts.specs.Text.{IsText}
use Rattle.texts.specs.TextState.{TextState}

-- an operation of this text whose identity isn't held, and the verdict on it
abbrev pub IsJudged : TextState → Operation → Verdict → Type 0
IsJudged t op verdict = (op.text ≡ t.text) × IsNew t.operations op × HasVerdict t.operations op verdict

-- these operations more, as the last, and the characters that are defined then; all else stays
pub record HasTakenAll (t : TextState) (ops : List Operation) (new : TextState) : Type 0 where
  pub is : IsText new
  pub grown : new ≡ record t { operations = t.operations ++ ops; order = new.order }

-- one operation more
abbrev pub HasTaken : TextState → Operation → TextState → Type 0
HasTaken t op new = HasTakenAll t (op ∷ []) new
