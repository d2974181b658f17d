-- What the crate's own functions say to one another.
use Rattle.std.specs.Prelude.{◌≡◌, ℕ, ◌+◌, ◌<◌, ◌≤◌, ◌^◌, Bool, false, if◌then◌else◌, List, [], ◌∷◌, ◌++◌}
use Rattle.std.specs.Prelude.{Option, Some, None, Result, Ok, Err, MatchResult}
use Rattle.looks.specs.declared.refusal.Refusal.{Refusal}
use Rattle.operations.specs.Operation.{Operation}
use Rattle.packed.specs.Told.{Told, nothing_begun}
use Rattle.chunks.specs.Chunks.{Placed, CanAllCome, Written, chunks, chunks_on, fits, written_on}
use Rattle.texts.specs.TextState.{TextState}
use Rattle.texts.specs.declared.took.Took.{Took}
use Rattle.text_chunks.specs.Unpacking.{TakesOpSo, counted_in}
use Rattle.text_chunks.specs.declared.unpacked.Unpacked.{Unpacked}

-- ---- operations that are being cut into chunks

-- those of a text: the chunks that are full, and the one that is being written, once there is an operation
pub record Cut : Type 0 where
  pub text : ℕ
  pub full : List (List ℕ)
  pub current : Option Written

-- what the chunk that is being written tells
abbrev pub told_in : Option Written → Told
told_in None = nothing_begun
told_in (Some w) = w.told

-- this chunk and those after it, once these operations come
abbrev pub chunks_from : (text : ℕ) → Option Written → List Placed → List (List ℕ)
chunks_from text None ps = chunks text ps
chunks_from text (Some w) ps = chunks_on text w ps

-- all chunks then
abbrev pub cut_on : Cut → List Placed → List (List ℕ)
cut_on c ps = c.full ++ chunks_from c.text c.current ps

-- this operation came, and those after it go on from there
pub record IsCutOn (c : Cut) (p : Placed) (new : Cut) : Type 0 where
  pub text : new.text ≡ c.text
  pub cut : (ps : List Placed) → cut_on new ps ≡ cut_on c (p ∷ ps)
  pub come : (ps : List Placed) → CanAllCome (told_in c.current) c.text (p ∷ ps)
      → CanAllCome (told_in new.current) c.text ps

-- the chunk that is being written, if it is, has room for an operation
abbrev pub chunk_has_room : Option Written → Placed → Bool
chunk_has_room None p = false
chunk_has_room (Some w) p = fits w p

-- and has it then
abbrev pub added_to : Option Written → Placed → Option Written
added_to None p = None
added_to (Some w) p = Some (if fits w p then written_on w p else w)

-- the chunk that was being written is full
abbrev pub written_chunks : Option Written → List (List ℕ)
written_chunks None = []
written_chunks (Some w) = w.bytes ∷ []

abbrev pub chunk_closed : Cut → Cut
chunk_closed c = record c { full = c.full ++ written_chunks c.current; current = None }

-- ---- operations that are handed in

-- counts that have room for what one operation more can do
pub record CountsHaveRoom (c : Unpacked) : Type 0 where
  pub taken : c.taken < 2 ^ 63
  pub known : c.known < 2 ^ 63
  pub waiting : c.waiting < 2 ^ 63

-- so much can one operation more add to counts at most
pub record HasGrown (c more : Unpacked) : Type 0 where
  pub taken : more.taken ≤ c.taken + 2 ^ 32
  pub known : more.known ≤ c.known + 1
  pub waiting : more.waiting ≤ c.waiting + 1

-- an operation is handed in, and counted, where it isn't refused
abbrev pub HandsInOne : Unpacked → TextState → Operation → Result Unpacked Refusal → TextState → Type 0
HandsInOne c t op result new =
    (one : Bool) × (took : Result Took Refusal) × TakesOpSo one t op took new
    × MatchResult took (λ how. result ≡ Ok (counted_in c t new how)) (λ why. result ≡ Err why)
