-- How a text grows by an event.
use Rattle.std.specs.Prelude.{◌≡◌, List, ◌++◌}
use Rattle.operations.specs.Operation.{Operation}
use Rattle.texts.specs.Text.{IsText}
use Rattle.texts.specs.TextState.{TextState}

-- The text was what its operations define and still is; it holds what it held, and perhaps more after that, and was asked
-- for its changes when it was before.
pub record Grows (t new : TextState) : Type 0 where
  pub was : IsText t
  pub is : IsText new
  pub more : List Operation
  pub taken : new.operations ≡ t.operations ++ more
  pub asked : new.asked ≡ t.asked
