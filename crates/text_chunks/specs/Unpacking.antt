-- What becomes of a chunk's operations, which are handed in one after the other.
use Rattle.std.specs.Prelude.{◌≡◌, ◌≢◌, ℕ, ◌+◌, ◌⊎◌, ◌||◌, nat_lt, ◌==◌, if◌then◌else◌, List, [], ◌∷◌, length}
use Rattle.std.specs.Prelude.{Bool, true, false, Result, Ok, Err, MatchResult}
use Rattle.looks.specs.declared.refusal.Refusal.{Refusal}
use Rattle.looks.specs.declared.refusal.Refusal.TheVariants.{Malformed, OutOfMemory, WrongText}
use Rattle.operations.specs.Operation.{Operation}
use Rattle.chunks.specs.Chunks.{BeginsAsChunk, IsChunkOf, IsNoChunk, Placed, operations_of}
use Rattle.texts.specs.Take.{TakesOp, TakesOpShort}
use Rattle.texts.specs.TextState.{TextState}
use Rattle.texts.specs.declared.took.Took.{Took}
use Rattle.texts.specs.declared.took.Took.TheVariants.{Taken, Repeat, Waits}
use Rattle.text_chunks.specs.declared.unpacked.UnpackRefusal.{UnpackRefusal}
use Rattle.text_chunks.specs.declared.unpacked.UnpackRefusal.TheVariants.{Whole, Partial}
use Rattle.text_chunks.specs.declared.unpacked.Unpacked.{Unpacked}

-- no operation was handed in yet
abbrev pub nothing_unpacked : Unpacked
nothing_unpacked = record { taken = 0; known = 0; waiting = 0; stopped = false }

-- one more was handed in, which was answered so: it was taken in, with those that waited for it; or it is held; or it waits, from
-- now on where the room grew, else already
abbrev pub counted_in : Unpacked → (t new : TextState) → Took → Unpacked
counted_in c t new (Taken drained dropped stopped) =
    record c { taken = c.taken + (drained + 1); stopped = c.stopped || stopped }
counted_in c t new Repeat = record c { known = c.known + 1 }
counted_in c t new Waits =
    if nat_lt (length t.waiting_room) (length new.waiting_room) then record c { waiting = c.waiting + 1 }
    else record c { known = c.known + 1 }

-- an operation is answered so, where memory is there or where it was refused
abbrev pub TakesOpSo : (short : Bool) → TextState → Operation → Result Took Refusal → TextState → Type 0
TakesOpSo false t op result new = TakesOp t op result new
TakesOpSo true t op result new = TakesOpShort t op result new

-- why a chunk was refused of which so many operations were handed in
abbrev pub refusal_after : (done : ℕ) → Refusal → UnpackRefusal
refusal_after done why = if done == 0 then Whole why else Partial done why

-- Operations are handed in one after the other, up to the last or to the first that is refused, after so many of which this
-- became; and whether memory was refused to one of them all.
abbrev pub HandsIn : (done : ℕ) → Unpacked → (was : Bool) → TextState → List Operation → (short : Bool)
    → Result Unpacked UnpackRefusal → TextState → Type 0
HandsIn done c was t [] short result new = (short ≡ was) × (result ≡ Ok c) × (new ≡ t)
HandsIn done c was t (op ∷ ops) short result new =
    (one : Bool) × (took : Result Took Refusal) × (mid : TextState) × TakesOpSo one t op took mid
    × MatchResult took (λ how. HandsIn (done + 1) (counted_in c t mid how) (was || one) mid ops short result new)
    (λ why. (short ≡ was || one) × (result ≡ Err (refusal_after done why)) × (new ≡ mid))

-- all of a chunk's are, from the first on
abbrev pub HandsInAll : TextState → List Operation → (short : Bool) → Result Unpacked UnpackRefusal → TextState → Type 0
HandsInAll t ops short result new = HandsIn 0 nothing_unpacked false t ops short result new

-- nothing is done, for this reason
abbrev pub StaysWhole : TextState → Refusal → Result Unpacked UnpackRefusal → TextState → Type 0
StaysWhole t why result new = (result ≡ Err (Whole why)) × (new ≡ t)

-- A chunk where memory is there: the bytes are none; or it is another text's; or its operations are handed in.
abbrev pub Unpacks : TextState → List ℕ → Result Unpacked UnpackRefusal → TextState → Type 0
Unpacks t bytes result new =
    (IsNoChunk bytes × StaysWhole t Malformed result new)
    ⊎ ((text : ℕ) × (ps : List Placed) × IsChunkOf text ps bytes
    × (((text ≢ t.text) × StaysWhole t WrongText result new)
    ⊎ ((text ≡ t.text) × HandsInAll t (operations_of ps) false result new)))

-- The same where memory was refused: the bytes, which begin as a chunk, weren't read, and nothing was done; or an operation was
-- refused for it, or a draining was stopped.
abbrev pub UnpacksShort : TextState → List ℕ → Result Unpacked UnpackRefusal → TextState → Type 0
UnpacksShort t bytes result new =
    (BeginsAsChunk bytes × StaysWhole t OutOfMemory result new)
    ⊎ ((ps : List Placed) × IsChunkOf t.text ps bytes × HandsInAll t (operations_of ps) true result new)
