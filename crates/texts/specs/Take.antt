-- What becomes of an operation that is handed in, and of the message that tells it.
use Rattle.std.specs.Prelude.{◌≡◌, ◌≢◌, ℕ, ◌<◌, ◌⊎◌, List, [], ◌∷◌, ◌++◌, length, Contains, Result, Ok, Err, Bool}
use Rattle.std.specs.Prelude.{true, false, nat_lt, MatchBool}
use Rattle.looks.specs.declared.refusal.Refusal.{Refusal}
use Rattle.looks.specs.declared.refusal.Refusal.TheVariants.{Malformed, WrongText, Conflict, RoomFull}
use Rattle.looks.specs.declared.refusal.Refusal.TheVariants.{BadOffset, BadStamp, OutOfMemory}
use Rattle.operations.specs.Operation.{Operation}
use Rattle.operations.specs.Reading.{SpellsNone}
use Rattle.operations.specs.Spelling.{HasSpelling, spelling}
use Rattle.set_laws.specs.Fronts.{IsHeld}
use Rattle.set_laws.specs.Sets.{IsInConflict}
use Rattle.set_laws.specs.Verdict.{Verdict, IsNew, wait, misfit, low_stamp, ready}
use Rattle.waiting_room.specs.declared.room.TheConstants.{MAX_WAITING}
use Rattle.texts.specs.Draining.{Drains}
use Rattle.texts.specs.Taking.{HasTaken, IsJudged}
use Rattle.texts.specs.TextState.{TextState, with_room}
use Rattle.texts.specs.declared.fate.Fate.{Fate}
use Rattle.texts.specs.declared.fate.Fate.TheVariants.{OtherText, Known, Conflicting, AlreadyWaits, Wait}
use Rattle.texts.specs.declared.fate.Fate.TheVariants.{Misfit, LowStamp, Ready}
use Rattle.texts.specs.declared.took.Took.{Took}
use Rattle.texts.specs.declared.took.Took.TheVariants.{Taken, Repeat, Waits}

-- the message tells this operation
pub record Encodes (message : List ℕ) (op : Operation) : Type 0 where
  pub valid : HasSpelling op
  pub spelled : message ≡ spelling op

-- no operation waits under the identity of this one, and the verdict on it
abbrev pub IsJudgedAnew : TextState → Operation → Verdict → Type 0
IsJudgedAnew t op verdict = (¬ IsHeld t.waiting_room op.site op.seq) × IsJudged t op verdict

-- another operation is held under the identity of this one; or none is, and another one waits under it
abbrev pub IsConflicting : TextState → Operation → Type 0
IsConflicting t op =
    IsInConflict t.operations op ⊎ (IsNew t.operations op × IsInConflict t.waiting_room op)

-- The first of these that holds tells what becomes of an operation: it is of another text; it is held, or another
-- one is under its identity; it waits, or another one does under its identity; and then the verdict.
abbrev pub HasFate : TextState → Operation → Fate → Type 0
HasFate t op OtherText = op.text ≢ t.text
HasFate t op Known = (op.text ≡ t.text) × Contains t.operations op
HasFate t op Conflicting = (op.text ≡ t.text) × IsConflicting t op
HasFate t op AlreadyWaits = (op.text ≡ t.text) × IsNew t.operations op × Contains t.waiting_room op
HasFate t op Wait = IsJudgedAnew t op wait
HasFate t op Misfit = IsJudgedAnew t op misfit
HasFate t op LowStamp = IsJudgedAnew t op low_stamp
HasFate t op Ready = IsJudgedAnew t op ready

-- nothing changed, and this is the answer
abbrev pub Stays : TextState → Result Took Refusal → Result Took Refusal → TextState → Type 0
Stays t answer result new = (result ≡ answer) × (new ≡ t)

-- one that has to wait: it does as the last, or is refused where there is no place
abbrev pub Enters : TextState → Operation → Result Took Refusal → TextState → Type 0
Enters t op result new =
    MatchBool (nat_lt (length t.waiting_room) MAX_WAITING)
    ((result ≡ Ok Waits) × (new ≡ with_room t (t.waiting_room ++ op ∷ [])))
    (Stays t (Err RoomFull) result new)

-- one that has to wait and has a place isn't put there, as memory was refused
abbrev pub StaysOut : TextState → Result Took Refusal → TextState → Type 0
StaysOut t result new = (length t.waiting_room < MAX_WAITING) × Stays t (Err OutOfMemory) result new

-- one that is ready is taken in, and the room is drained after it, as far as that was not stopped
abbrev pub TakesIn : TextState → Operation → (stopped : Bool) → Result Took Refusal → TextState → Type 0
TakesIn t op stopped result new =
    (with_op : TextState) × (drained dropped : ℕ) × HasTaken t op with_op
    × Drains with_op drained dropped stopped new × (result ≡ Ok (Taken drained dropped stopped))

-- what an operation is answered of which this becomes, and the text afterwards, where memory is there
abbrev pub Becomes : TextState → Operation → Fate → Result Took Refusal → TextState → Type 0
Becomes t op OtherText = Stays t (Err WrongText)
Becomes t op Known = Stays t (Ok Repeat)
Becomes t op Conflicting = Stays t (Err Conflict)
Becomes t op AlreadyWaits = Stays t (Ok Waits)
Becomes t op Wait = Enters t op
Becomes t op Misfit = Stays t (Err BadOffset)
Becomes t op LowStamp = Stays t (Err BadStamp)
Becomes t op Ready = TakesIn t op false

-- An operation where memory is there: it is answered by what becomes of it.
abbrev pub TakesOp : TextState → Operation → Result Took Refusal → TextState → Type 0
TakesOp t op result new = (fate : Fate) × HasFate t op fate × Becomes t op fate result new

-- The same where memory was refused: one that has to wait, and has a place, or that is ready changes nothing; or that
-- was taken in, and the draining after it was stopped.
abbrev pub TakesOpShort : TextState → Operation → Result Took Refusal → TextState → Type 0
TakesOpShort t op result new =
    (HasFate t op Wait × StaysOut t result new)
    ⊎ (HasFate t op Ready × (TakesIn t op true result new ⊎ Stays t (Err OutOfMemory) result new))

-- A message where memory is there: it tells no operation, or what it tells is answered by what becomes of that.
abbrev pub Takes : TextState → List ℕ → Result Took Refusal → TextState → Type 0
Takes t message result new =
    (SpellsNone message × Stays t (Err Malformed) result new)
    ⊎ ((op : Operation) × (fate : Fate) × Encodes message op × HasFate t op fate × Becomes t op fate result new)

-- The same where memory was refused: it tells an operation, and nothing changes; or its operation was taken in, and
-- the draining after it was stopped.
abbrev pub TakesShort : TextState → List ℕ → Result Took Refusal → TextState → Type 0
TakesShort t message result new =
    ((¬ SpellsNone message) × Stays t (Err OutOfMemory) result new)
    ⊎ ((op : Operation) × Encodes message op × HasFate t op Ready × TakesIn t op true result new)
