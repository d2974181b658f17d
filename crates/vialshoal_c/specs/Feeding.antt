-- What the calls that take in what other sites made answer and do.
use Rattle.std.specs.Prelude.{◌≡◌, ℕ, ◌⊎◌, List, [], length, Bool, false, Option, Some, None, Result, Ok, Err, OnOk}
use Rattle.looks.specs.Refusal.{number_of}
use Rattle.looks.specs.declared.refusal.Refusal.{Refusal}
use Rattle.looks.specs.declared.refusal.Refusal.TheVariants.{OutOfMemory}
use Rattle.text_chunks.specs.Unpacking.{Unpacks, UnpacksShort}
use Rattle.text_chunks.specs.declared.unpacked.UnpackRefusal.{UnpackRefusal}
use Rattle.text_chunks.specs.declared.unpacked.UnpackRefusal.TheVariants.{Whole as Untouched, Partial}
use Rattle.text_chunks.specs.declared.unpacked.Unpacked.{Unpacked}
use Rattle.texts.specs.Draining.{Drains}
use Rattle.texts.specs.Merge.{IsUnionOf, Merges, MergesShort}
use Rattle.texts.specs.Take.{Takes, TakesShort}
use Rattle.texts.specs.TextState.{with_room}
use Rattle.texts.specs.declared.merge_refusal.MergeRefusal.{MergeRefusal}
use Rattle.texts.specs.declared.merge_refusal.MergeRefusal.TheVariants.{Whole, Stopped}
use Rattle.texts.specs.declared.took.Took.{Took}
use Rattle.texts.specs.declared.took.Took.TheVariants.{Taken, Repeat, Waits}
use Rattle.vialshoal_c.specs.Opened.{IsMisused}
use Rattle.vialshoal_c.specs.SessionState.{KeepsTheRest, SessionState}
use Rattle.vialshoal_c.specs.declared.numbers.TheConstants.{IS_REPEAT, IS_TAKEN, IS_WAITING, NOT_OPEN}
use Rattle.vialshoal_c.specs.declared.outputs.Taking.{Taking}
use Rattle.vialshoal_c.specs.declared.outputs.Unpacking.{Unpacking}

-- the number that says what the taking of a message answered
abbrev pub number_of_taking : Result Took Refusal → ℕ
number_of_taking (Ok took) = 0
number_of_taking (Err why) = number_of why

-- and the rest of that answer
abbrev pub taking_of : Result Took Refusal → Taking
taking_of (Ok (Taken drained dropped stopped)) =
    record { kind = IS_TAKEN; drained = drained; dropped = dropped; stopped = stopped }
taking_of (Ok Repeat) = record { kind = IS_REPEAT; drained = 0; dropped = 0; stopped = false }
taking_of (Ok Waits) = record { kind = IS_WAITING; drained = 0; dropped = 0; stopped = false }
taking_of (Err why) = record { kind = 0; drained = 0; dropped = 0; stopped = false }

-- nothing was taken
abbrev pub no_taking : Taking
no_taking = record { kind = 0; drained = 0; dropped = 0; stopped = false }

-- the text takes this message, whether memory is there or not, and answers it
abbrev pub SessionTakesIn : SessionState → (message : List ℕ) → (number : ℕ) → Taking → SessionState → Type 0
SessionTakesIn s message number taking new =
    (answer : Result Took Refusal)
    × (Takes s.text message answer new.text ⊎ TakesShort s.text message answer new.text)
    × (number ≡ number_of_taking answer) × (taking ≡ taking_of answer) × KeepsTheRest s new

-- the number that says what a chunk answered
abbrev pub number_of_unpacking : Result Unpacked UnpackRefusal → ℕ
number_of_unpacking (Ok counts) = 0
number_of_unpacking (Err (Untouched why)) = number_of why
number_of_unpacking (Err (Partial done why)) = number_of why

-- it was refused after so many of its operations
abbrev pub unpacking_refused_after : (done : ℕ) → Unpacking
unpacking_refused_after done = record { taken = 0; known = 0; waiting = 0; done = done; stopped = false }

-- and the rest of that answer
abbrev pub unpacking_of : Result Unpacked UnpackRefusal → Unpacking
unpacking_of (Ok c) =
    record { taken = c.taken; known = c.known; waiting = c.waiting; done = 0; stopped = c.stopped }
unpacking_of (Err (Untouched why)) = unpacking_refused_after 0
unpacking_of (Err (Partial done why)) = unpacking_refused_after done

-- the text unpacks this chunk, whether memory is there or not, and answers it
abbrev pub UnpacksIn : SessionState → (chunk : List ℕ) → (number : ℕ) → Unpacking → SessionState → Type 0
UnpacksIn s chunk number unpacking new =
    (answer : Result Unpacked UnpackRefusal)
    × (Unpacks s.text chunk answer new.text ⊎ UnpacksShort s.text chunk answer new.text)
    × (number ≡ number_of_unpacking answer) × (unpacking ≡ unpacking_of answer) × KeepsTheRest s new

-- what waits is taken in as far as it is ready
abbrev pub Settles : SessionState → (number drained dropped : ℕ) → (stopped : Bool) → SessionState → Type 0
Settles s number drained dropped stopped new =
    (number ≡ 0) × Drains s.text drained dropped stopped new.text × KeepsTheRest s new

-- what waits is forgotten
abbrev pub ForgetsWaiting : SessionState → (number count : ℕ) → SessionState → Type 0
ForgetsWaiting s number count new =
    (number ≡ 0) × (count ≡ length s.text.waiting_room) × (new.text ≡ with_room s.text []) × KeepsTheRest s new

-- the number that says what a merge answered
abbrev pub number_of_merge : Result ℕ MergeRefusal → ℕ
number_of_merge (Ok count) = 0
number_of_merge (Err (Whole why)) = number_of why
number_of_merge (Err (Stopped done)) = number_of OutOfMemory

-- how many operations it took in
abbrev pub merged_by : Result ℕ MergeRefusal → ℕ
merged_by (Ok count) = count
merged_by (Err (Whole why)) = 0
merged_by (Err (Stopped done)) = done

-- the text takes in what the other one holds, and answers it; with all of that it holds both, and shows their union
abbrev pub MergesIn : SessionState → SessionState → (number taken : ℕ) → SessionState → Type 0
MergesIn s other number taken new =
    (answer : Result ℕ MergeRefusal)
    × (Merges s.text other.text answer new.text ⊎ MergesShort s.text other.text answer new.text)
    × OnOk answer (IsUnionOf s.text other.text new.text)
    × (number ≡ number_of_merge answer) × (taken ≡ merged_by answer) × KeepsTheRest s new

-- the same of the other handle's text, if it has one
abbrev pub MergesHandle : Option SessionState → SessionState → (number taken : ℕ) → SessionState → Type 0
MergesHandle None s number taken new = IsMisused NOT_OPEN s number new × (taken ≡ 0)
MergesHandle (Some other) s number taken new = MergesIn s other number taken new
