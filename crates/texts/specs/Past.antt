-- The text as it was, up to fronts that somebody names.
use Rattle.std.specs.Prelude.{◌≡◌, ◌≤◌, List, [], ◌∷◌}
use Rattle.operations.specs.Operation.{Operation}
use Rattle.set_laws.specs.Closure.{IsGreatestGoodPart}
use Rattle.set_laws.specs.Verdict.{HasVerdict, ready}
use Rattle.texts.specs.Fronts.{front_in, up_to_fronts}
use Rattle.texts.specs.Text.{IsText}
use Rattle.texts.specs.TextState.{TextState, noting}
use Rattle.texts.specs.declared.front.Front.{Front}

-- the second list has some of the first, in their order
pub data HasSomeOf : List Operation → List Operation → Type 0 where
  ends : HasSomeOf [] []
  leaves_out : {ops some : List Operation} (op : Operation) → HasSomeOf ops some → HasSomeOf (op ∷ ops) some
  keeps : {ops some : List Operation} (op : Operation) → HasSomeOf ops some → HasSomeOf (op ∷ ops) (op ∷ some)

-- The same text, at the same site, of the operations up to the fronts: it has taken in all that can be, the greatest
-- good part of them, in their order. Nothing waits in it, nothing was cut last, and no changes were asked for.
pub record IsPastOf (t : TextState) (fronts : List Front) (p : TextState) : Type 0 where
  pub is : IsText p
  pub text : p.text ≡ t.text
  pub site : p.site ≡ t.site
  pub in_order : HasSomeOf t.operations p.operations
  pub closure : IsGreatestGoodPart (up_to_fronts fronts t.operations) p.operations
  pub waiting : p.waiting_room ≡ []
  pub last_stretch : p.last_stretch ≡ []
  pub last_set : p.last_set ≡ []
  pub asked : p.asked ≡ noting 0

-- an operation is up to the fronts, and ready
abbrev pub IsDue : List Operation → List Front → Operation → Type 0
IsDue ops fronts op = (op.seq ≤ front_in fronts op.site) × HasVerdict ops op ready
