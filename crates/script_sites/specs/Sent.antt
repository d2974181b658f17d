-- The messages that a run's sites sent, each as the spelling of its operation where a text has that.
use Rattle.std.specs.Prelude.{◌≡◌, ℕ, ◌-◌, ◌≤◌, List, [], length, map, All, Option, Some, slice_get}
use Rattle.std.specs.Option.{option_and_then, option_map_or}
use Rattle.operations.specs.Operation.{Operation}
use Rattle.operations.specs.Spelling.{HasSpelling, spelling}
use Rattle.texts.specs.Text.{IsText}
use Rattle.texts.specs.TextState.{TextState, noting}
use Rattle.machine.specs.SiteTexts.{SiteTexts, IsTextOf}
use Rattle.machine.specs.declared.TheConstants.{MAX_TEXT}
use Rattle.script_sites.specs.declared.sent_at.SentAt.{SentAt}

-- the operation that a desk's text has at this place, if there is one
abbrev pub op_at : List SiteTexts → SentAt → Option Operation
op_at desks at =
    option_and_then (λ d. option_and_then (λ t. slice_get t.operations at.place) (slice_get d.texts (at.text - 1)))
    (slice_get desks at.desk)

-- the message that tells it
abbrev pub sent_message : List SiteTexts → SentAt → List ℕ
sent_message desks at = option_map_or spelling (op_at desks at) []

-- the messages of these places, in order
abbrev pub messages_at : List SiteTexts → List SentAt → List (List ℕ)
messages_at desks sent = map (sent_message desks) sent

-- the operation is the one that the text of this number, on the desk at this index, has at this place
pub record IsOperationAt (desks : List SiteTexts) (at : SentAt) (op : Operation) : Type 0 where
  pub on_desk : at.text ≤ MAX_TEXT
  pub desk : SiteTexts
  pub in_run : slice_get desks at.desk ≡ Some desk
  pub text : TextState
  pub of_desk : IsTextOf desk at.text text
  pub taken : slice_get text.operations at.place ≡ Some op

-- an operation stands there, and has a spelling
abbrev pub IsSentOperation : List SiteTexts → SentAt → Type 0
IsSentOperation desks at = (op : Operation) × IsOperationAt desks at op × HasSpelling op

-- so it is at each of these places
abbrev pub AreSentOperations : List SiteTexts → List SentAt → Type 0
AreSentOperations desks sent = All (IsSentOperation desks) sent

-- an operation stands there that the message tells
abbrev pub IsToldAt : List SiteTexts → (message : List ℕ) → SentAt → Type 0
IsToldAt desks message at = (op : Operation) × IsOperationAt desks at op × HasSpelling op × (message ≡ spelling op)

-- each text of the desks is what its operations define, and has told its changes
abbrev pub AreSound : List SiteTexts → Type 0
AreSound desks = (i text : ℕ) (t : TextState)
    → ((d : SiteTexts) × (slice_get desks i ≡ Some d) × IsTextOf d text t) → IsText t × (t.asked ≡ noting (length t.operations))
