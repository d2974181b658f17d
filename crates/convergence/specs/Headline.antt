-- The headline: what was taken in, and that alone, tells what is shown.
use Rattle.std.specs.Prelude.{◌≡◌, ◌≢◌, ℕ, ◌⊎◌, ◌↔◌, List, [], ◌∷◌, ◌++◌, Contains, Result, Ok, Err}
use Rattle.looks.specs.declared.refusal.Refusal.{Refusal}
use Rattle.looks.specs.declared.refusal.Refusal.TheVariants.{RoomFull}
use Rattle.operations.specs.Operation.{Operation}
use Rattle.texts.specs.Draining.{AllStay}
use Rattle.texts.specs.Laws.{AreTextsAlike, MergesShowTheUnion, OperationsDetermineTheText, ShowsTheDefinition}
use Rattle.texts.specs.Merge.{Merges}
use Rattle.texts.specs.Take.{Takes, TakesShort, Encodes}
use Rattle.texts.specs.Text.{IsText}
use Rattle.texts.specs.TextState.{TextState, empty_text, shown_of}
use Rattle.texts.specs.declared.took.Took.{Took}
use Rattle.texts.specs.declared.took.Took.TheVariants.{Repeat, Waits}
use Rattle.convergence.specs.HandedIn.{AccountsFor}

-- two texts that keep the same operations, and in which all that waits waits for a cause, are alike
abbrev pub KeptTextsAreAlike : Type 0
KeptTextsAreAlike = (t u : TextState) (all : List Operation) → IsText t → IsText u → AccountsFor t all → AccountsFor u all
    → AllStay t → AllStay u → AreTextsAlike t u

-- the text comes of the first by these messages, one after the other; memory was there, and a place for each that had
-- to wait
pub data HasTakenMessages (t : TextState) : List (List ℕ) → TextState → Type 0 where
  begins : HasTakenMessages t [] t
  goes_on : {messages : List (List ℕ)} {u : TextState} (message : List ℕ) (result : Result Took Refusal)
      (new : TextState) → HasTakenMessages t messages u → Takes u message result new → result ≢ Err RoomFull
      → HasTakenMessages t (messages ++ message ∷ []) new

-- one of the messages tells this operation
abbrev pub IsTold : List (List ℕ) → Operation → Type 0
IsTold messages op = (message : List ℕ) × Contains messages message × Encodes message op

-- no two operations of this text that the messages tell have one identity
abbrev pub TellNoConflict : (text : ℕ) → List (List ℕ) → Type 0
TellNoConflict text messages = (a b : Operation) → IsTold messages a → IsTold messages b → a.text ≡ text
    → b.text ≡ text → a.site ≡ b.site → a.seq ≡ b.seq → a ≡ b

-- the same messages, in any order and with any repeats
abbrev pub AreSameMessages : (a b : List (List ℕ)) → Type 0
AreSameMessages a b = (message : List ℕ) → Contains a message ↔ Contains b message

-- two new texts that have taken in the same messages, in any orders at all and with any repeats, end alike
abbrev pub SameMessagesEndAlike : Type 0
SameMessagesEndAlike = (text site site' : ℕ) (a b : List (List ℕ)) (t u : TextState)
    → HasTakenMessages (empty_text text site) a t → HasTakenMessages (empty_text text site') b u
    → AreSameMessages a b → TellNoConflict text a → AreTextsAlike t u

-- either way: one text merged into the other, and the other into the one, are alike
abbrev pub MergesAreAlike : Type 0
MergesAreAlike = (t u t' u' : TextState) (n m : ℕ) → IsText t → IsText u → Merges t u (Ok n) t'
    → Merges u t (Ok m) u' → AreTextsAlike t' u'

-- the answers that change nothing shown: its operation waits, is held already, or is refused
abbrev pub ShowsNothingNew : Result Took Refusal → Type 0
ShowsNothingNew result =
    (result ≡ Ok Waits) ⊎ ((result ≡ Ok Repeat) ⊎ ((why : Refusal) × (result ≡ Err why)))

-- a message that waits or is refused changes nothing shown
abbrev pub WhatWaitsShowsNothing : Type 0
WhatWaitsShowsNothing = (t new : TextState) (message : List ℕ) (result : Result Took Refusal)
    → (Takes t message result new ⊎ TakesShort t message result new) → ShowsNothingNew result
    → shown_of new ≡ shown_of t

-- Two replicas that have taken in the same operations are alike, whatever the order of taking and the repeats, and
-- show what the definition gives from the set alone; so are two to which the same messages were handed, in any order
-- at all; a merge shows the text of the union, either way; and what waits or is refused changes nothing shown.
pub record Headline : Type 0 where
  pub same_operations : OperationsDetermineTheText
  pub by_definition : ShowsTheDefinition
  pub same_kept : KeptTextsAreAlike
  pub same_messages : SameMessagesEndAlike
  pub merged : MergesShowTheUnion
  pub either_way : MergesAreAlike
  pub nothing_new : WhatWaitsShowsNothing
