-- Two sites that meet: each hands the other what that lacks, and both show one text.
use Rattle.std.specs.Prelude.{◌≡◌, ◌≢◌, ℕ, ◌⊎◌, List, [], ◌∷◌, ◌++◌, map, All, AllPairs, false, Result, Ok}
use Rattle.looks.specs.declared.refusal.Refusal.{Refusal}
use Rattle.operations.specs.Spelling.{HasSpelling, spelling}
use Rattle.tree_order.specs.Laws.{AreSameSet}
use Rattle.set_laws.specs.Fronts.{front_of}
use Rattle.set_laws.specs.Sets.{IsPartOf}
use Rattle.texts.specs.Fronts.{beyond, front_in, up_to_fronts}
use Rattle.texts.specs.Laws.{AreTextsAlike}
use Rattle.texts.specs.Merge.{CanMerge}
use Rattle.texts.specs.Take.{Takes}
use Rattle.texts.specs.Text.{IsText}
use Rattle.texts.specs.TextState.{TextState}
use Rattle.texts.specs.declared.front.Front.{Front}
use Rattle.texts.specs.declared.took.Took.{Took}
use Rattle.texts.specs.declared.took.Took.TheVariants.{Taken, Repeat}

-- these messages, one after the other, are answered so where memory is there, and leave this text
abbrev pub TakesAll : TextState → List (List ℕ) → (answers : List (Result Took Refusal)) → TextState → Type 0
TakesAll t [] [] new = new ≡ t
TakesAll t (message ∷ messages) (answer ∷ answers) new =
    (next : TextState) × Takes t message answer next × TakesAll next messages answers new
TakesAll t messages answers new = ⊥

-- the messages of what a text has taken in beyond the fronts, in the order of its taking
abbrev pub messages_since : List Front → TextState → List (List ℕ)
messages_since fronts t = map spelling (beyond fronts t.operations)

-- the operation was taken in, and none had waited for it
abbrev pub IsTakenAlone : Result Took Refusal → Type 0
IsTakenAlone answer = answer ≡ Ok (Taken 0 0 false)

-- it was taken in so, or it was held already
abbrev pub IsTakenOrHeld : Result Took Refusal → Type 0
IsTakenOrHeld answer = IsTakenAlone answer ⊎ (answer ≡ Ok Repeat)

-- a text that holds the operations of both, and in which nothing waits
pub record HoldsBoth (t u new : TextState) : Type 0 where
  pub is : IsText new
  pub operations : AreSameSet new.operations (t.operations ++ u.operations)
  pub none_waits : new.waiting_room ≡ []

-- Where u has all that t has up to the fronts, and nothing waits in u, the messages of what t has beyond them are taken
-- in there, one after the other, or were held already; then u holds the operations of both, and nothing waits.
abbrev pub SinceIsTakenIn : Type 0
SinceIsTakenIn = (t u new : TextState) (fronts : List Front) (answers : List (Result Took Refusal))
    → IsText t → IsText u → CanMerge u t → All HasSpelling t.operations → u.waiting_room ≡ []
    → IsPartOf (up_to_fronts fronts t.operations) u.operations → TakesAll u (messages_since fronts t) answers new
    → HoldsBoth u t new × All IsTakenOrHeld answers

-- the fronts give each site its front in the text
abbrev pub AreFrontsOf : TextState → List Front → Type 0
AreFrontsOf t fronts = (site : ℕ) → front_in fronts site ≡ front_of t.operations site

-- a text in which nothing waits, none of its operations taken in twice, and each told by a message
pub record CanMeet (t : TextState) : Type 0 where
  pub is : IsText t
  pub once : AllPairs (λ a b. a ≢ b) t.operations
  pub spelled : All HasSpelling t.operations
  pub none_waits : t.waiting_room ≡ []

-- two texts, each of which is handed what the other has beyond its own fronts, are alike afterwards, and each message
-- was taken in
abbrev pub TheyMeet : Type 0
TheyMeet = (t u t' u' : TextState) (fronts fronts' : List Front) (answers answers' : List (Result Took Refusal))
    → CanMeet t → CanMeet u → CanMerge t u → AreFrontsOf t fronts → AreFrontsOf u fronts'
    → TakesAll t (messages_since fronts u) answers t' → TakesAll u (messages_since fronts' t) answers' u'
    → AreTextsAlike t' u' × All IsTakenAlone answers × All IsTakenAlone answers'
