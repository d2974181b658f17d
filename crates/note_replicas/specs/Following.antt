-- A replica that takes in what counts of its text, in the order of a log.
use Rattle.std.specs.Prelude.{◌≡◌, List, [], ◌++◌, length, take}
use Rattle.operations.specs.Operation.{Operation}
use Rattle.texts.specs.TextState.{TextState}

-- these were taken in, in this order, and nothing waits
pub record HasTakenJust (t : TextState) (ops : List Operation) : Type 0 where
  pub taken : t.operations ≡ ops
  pub none_waits : t.waiting_room ≡ []

-- so were the first of these
abbrev pub HasTakenBeginning : TextState → List Operation → Type 0
HasTakenBeginning t ops = HasTakenJust t (take (length t.operations) ops)

-- it took in more at most, and its changes were asked for when they were
pub record Advances (t new : TextState) : Type 0 where
  pub more : List Operation
  pub taken : new.operations ≡ t.operations ++ more
  pub asked : new.asked ≡ t.asked

-- it is the same site's copy of the same text
pub record IsOfPlace (t new : TextState) : Type 0 where
  pub text : new.text ≡ t.text
  pub site : new.site ≡ t.site
