-- What becomes of all that was handed in to a replica: it is taken in, it waits, or it is refused for good.
use Rattle.std.specs.Prelude.{◌≡◌, ℕ, ◌+◌, ◌==◌, ◌≤◌, ◌⊎◌, ◌↔◌, List, [], ◌∷◌, ◌++◌, take, Contains, Bool, true, false}
use Rattle.std.specs.Prelude.{IsTrue, MatchBool, Result, Ok, Err, if◌then◌else◌}
use Rattle.looks.specs.declared.refusal.Refusal.{Refusal}
use Rattle.looks.specs.declared.refusal.Refusal.TheVariants.{BadOffset, BadStamp}
use Rattle.operations.specs.NameSet.{Range}
use Rattle.operations.specs.Operation.{Operation}
use Rattle.chunks.specs.Chunks.{IsChunkOf, Placed, operations_of}
use Rattle.set_laws.specs.Closure.{IsClosure, IsKept}
use Rattle.set_laws.specs.Sets.{AreIdentified}
use Rattle.texts.specs.Draining.{AllStay, Drains}
use Rattle.texts.specs.Edit.{Edit, after, is_in_text, plan}
use Rattle.texts.specs.Outcome.{count_standing}
use Rattle.texts.specs.Merge.{Merges, MergesShort, news}
use Rattle.texts.specs.Named.{EditsByNames, EditsByNamesShort, op_by_names}
use Rattle.texts.specs.Take.{Takes, TakesOp, TakesOpShort, TakesShort, Encodes}
use Rattle.texts.specs.Taking.{HasTakenAll}
use Rattle.texts.specs.Text.{IsText}
use Rattle.texts.specs.TextState.{TextState, empty_text, with_room}
use Rattle.texts.specs.declared.by_names.ByNames.{ByNames}
use Rattle.texts.specs.declared.edit_refusal.EditRefusal.{EditRefusal}
use Rattle.texts.specs.declared.merge_refusal.MergeRefusal.{MergeRefusal}
use Rattle.texts.specs.declared.merge_refusal.MergeRefusal.TheVariants.{Whole, Stopped}
use Rattle.texts.specs.declared.took.Took.{Took}
use Rattle.text_chunks.specs.Unpacking.{Unpacks, UnpacksShort, refusal_after}
use Rattle.text_chunks.specs.declared.unpacked.UnpackRefusal.{UnpackRefusal}
use Rattle.text_chunks.specs.declared.unpacked.UnpackRefusal.TheVariants.{Whole as Untouched}
use Rattle.text_chunks.specs.declared.unpacked.Unpacked.{Unpacked}

-- of all these, no two under one identity, the text has taken in some, some wait in it, and each other one is refused
-- for its offset or its stamp
pub record AccountsFor (t : TextState) (all : List Operation) : Type 0 where
  pub identified : AreIdentified all
  pub kept : IsKept t.operations t.waiting_room all

-- whether a message that was answered so counts among those handed in: not where it may come again as if it had
-- never come
abbrev pub is_handed_in : Result Took Refusal → Bool
is_handed_in (Ok took) = true
is_handed_in (Err BadOffset) = true
is_handed_in (Err BadStamp) = true
is_handed_in (Err why) = false

-- a new text keeps nothing
abbrev pub NothingIsKept : Type 0
NothingIsKept = (text site : ℕ) → AccountsFor (empty_text text site) []

-- a text that began as its site's file tells keeps what that told, and nothing else
abbrev pub KeptByReopening : Type 0
KeptByReopening =
    (text site : ℕ) (ops : List Operation) (t : TextState) → HasTakenAll (empty_text text site) ops t → AccountsFor t ops

-- a message is kept with all before it where it counts among those handed in, and changes nothing of what is kept
-- where it doesn't
abbrev pub KeptByTaking : Type 0
KeptByTaking = (t new : TextState) (message : List ℕ) (result : Result Took Refusal) (all : List Operation)
    → IsText t → AccountsFor t all → (Takes t message result new ⊎ TakesShort t message result new)
    → MatchBool (is_handed_in result)
    ((op : Operation) → Encodes message op → AreIdentified (all ++ op ∷ []) → AccountsFor new (all ++ op ∷ []))
    (AccountsFor new all)

-- all is kept, with an operation whose answer counts it among those handed in
abbrev pub KeepsWith : (all : List Operation) → Operation → Result Took Refusal → (new : TextState) → Type 0
KeepsWith all op result new = MatchBool (is_handed_in result)
    (AreIdentified (all ++ op ∷ []) → AccountsFor new (all ++ op ∷ [])) (AccountsFor new all)

-- so it is with an operation that is handed in by itself
abbrev pub KeptByTakingOps : Type 0
KeptByTakingOps = (t new : TextState) (op : Operation) (result : Result Took Refusal) (all : List Operation)
    → IsText t → AccountsFor t all → (TakesOp t op result new ⊎ TakesOpShort t op result new)
    → KeepsWith all op result new

-- 1 for a refusal that counts its operation among those handed in, else 0
abbrev pub count_refused : Refusal → ℕ
count_refused why = if is_handed_in (Err why) then 1 else 0

-- Of a chunk that was answered so, these operations were handed in: all; or those before the one that was refused, and
-- that one too, if it counts; and none of bytes that are no chunk of the text, or that weren't read for want of memory.
abbrev pub AreHandedInOf : List ℕ → Result Unpacked UnpackRefusal → List Operation → Type 0
AreHandedInOf bytes (Ok counts) handed =
    (text : ℕ) × (ps : List Placed) × IsChunkOf text ps bytes × (handed ≡ operations_of ps)
AreHandedInOf bytes (Err refusal) handed =
    ((why : Refusal) × (refusal ≡ Untouched why) × (is_handed_in (Err why) ≡ false) × (handed ≡ []))
    ⊎ ((text : ℕ) × (ps : List Placed) × IsChunkOf text ps bytes × (done : ℕ) × (why : Refusal)
    × (refusal ≡ refusal_after done why) × (handed ≡ take (done + count_refused why) (operations_of ps)))

-- a chunk's operations that were handed in are kept with all before them
abbrev pub KeptByUnpacking : Type 0
KeptByUnpacking = (t new : TextState) (bytes : List ℕ) (result : Result Unpacked UnpackRefusal) (all : List Operation)
    → IsText t → AccountsFor t all → (Unpacks t bytes result new ⊎ UnpacksShort t bytes result new)
    → (handed : List Operation) × AreHandedInOf bytes result handed
    × (AreIdentified (all ++ handed) → AccountsFor new (all ++ handed))

-- draining leaves all kept
abbrev pub KeptByDraining : Type 0
KeptByDraining = (t new : TextState) (drained dropped : ℕ) (stopped : Bool) (all : List Operation)
    → IsText t → AccountsFor t all → Drains t drained dropped stopped new → AccountsFor new all

-- an own edit's operations that stand are kept with all before them
abbrev pub KeptByEdits : Type 0
KeptByEdits = (t : TextState) (e : Edit) (n : ℕ) (all : List Operation)
    → IsText t → IsTrue (is_in_text t e) → n ≤ count_standing t (plan t e) → AccountsFor t all
    → AreIdentified (all ++ take n (plan t e)) → AccountsFor (after t (take n (plan t e))) (all ++ take n (plan t e))

-- the operation that an edit by names made: one where it was answered that one was sent
abbrev pub made_by_names : TextState → ByNames → List Range → Result ℕ EditRefusal → List Operation
made_by_names t what names (Ok sent) = if sent == 0 then [] else op_by_names t what names ∷ []
made_by_names t what names (Err why) = []

-- and it is kept with all before it
abbrev pub KeptByNames : Type 0
KeptByNames = (t new : TextState) (what : ByNames) (names : List Range) (result : Result ℕ EditRefusal)
    (messages : List (List ℕ)) (all : List Operation) → IsText t → AccountsFor t all
    → (EditsByNames what names t result new messages ⊎ EditsByNamesShort what names t result new messages)
    → AreIdentified (all ++ made_by_names t what names result)
    → AccountsFor new (all ++ made_by_names t what names result)

-- what a merge took in: all that is new here, or the first ones of that
abbrev pub merged : (t other : TextState) → Result ℕ MergeRefusal → List Operation
merged t other (Ok count) = news t other
merged t other (Err (Whole why)) = []
merged t other (Err (Stopped done)) = take done (news t other)

-- what a merge took in is kept with all before it
abbrev pub KeptByMerging : Type 0
KeptByMerging = (t other new : TextState) (result : Result ℕ MergeRefusal) (all : List Operation)
    → IsText t → IsText other → AccountsFor t all
    → (Merges t other result new ⊎ MergesShort t other result new) → AreIdentified (all ++ merged t other result)
    → AccountsFor new (all ++ merged t other result)

-- these are all of those but what waits and isn't held
abbrev pub AreAllButWaiting : TextState → (all rest : List Operation) → Type 0
AreAllButWaiting t all rest = (op : Operation)
    → Contains rest op ↔ Contains all op × (Contains t.operations op ⊎ (¬ Contains t.waiting_room op))

-- where the room is emptied, what waited isn't handed in any more
abbrev pub KeptByForgetting : Type 0
KeptByForgetting = (t : TextState) (all rest : List Operation) → IsText t → AccountsFor t all
    → AreAllButWaiting t all rest → AccountsFor (with_room t []) rest

-- where all that waits waits for a cause, what is taken in is the closure of all that was handed in
abbrev pub WhatIsKeptIsClosed : Type 0
WhatIsKeptIsClosed = (t : TextState) (all : List Operation) → IsText t → AccountsFor t all → AllStay t
    → IsClosure all t.operations

-- after these calls all that waits waits for a cause: a draining that wasn't stopped, whatever waited before; a
-- message, an operation, a chunk, an own edit and an emptying of the room, where it was so before
pub record StayWaiting : Type 0 where
  pub drained : (t new : TextState) (drained dropped : ℕ) → Drains t drained dropped false new → AllStay new
  pub taken : (t new : TextState) (message : List ℕ) (result : Result Took Refusal) → IsText t → AllStay t
      → Takes t message result new → AllStay new
  pub taken_op : (t new : TextState) (op : Operation) (result : Result Took Refusal) → IsText t → AllStay t
      → TakesOp t op result new → AllStay new
  pub unpacked : (t new : TextState) (bytes : List ℕ) (result : Result Unpacked UnpackRefusal) → IsText t → AllStay t
      → Unpacks t bytes result new → AllStay new
  pub edited : (t : TextState) (e : Edit) (n : ℕ) → IsText t → IsTrue (is_in_text t e)
      → n ≤ count_standing t (plan t e) → AllStay t → AllStay (after t (take n (plan t e)))
  pub by_names : (t new : TextState) (what : ByNames) (names : List Range) (result : Result ℕ EditRefusal)
      (messages : List (List ℕ)) → IsText t → AllStay t → EditsByNames what names t result new messages → AllStay new
  pub forgotten : (t : TextState) → AllStay (with_room t [])
