-- The body of an entry of messages that is being written.
use Rattle.std.specs.Prelude.{◌≡◌, ℕ, ◌+◌, ◌-◌, ◌^◌, ◌<◌, ◌⊎◌, true, List, [], ◌∷◌, ◌++◌, length, Option, Some, None}
use Rattle.std.specs.List.{flat_map}
use Rattle.std.specs.Int.{w16}
use Rattle.byte_fields.specs.Fields.{number_spelling}
use Rattle.operations.specs.Operation.{Operation}
use Rattle.packed.specs.Told.{IsNext}
use Rattle.chunks.specs.Chunks.{CanCome, Placed, Written, begun, fits, nothing_written, written_on}
use Rattle.chunks.specs.Parts.{placed}
use Rattle.note_laws.specs.Note.{Saying}
use Rattle.note_entries.specs.Bytes.{hash_bytes}
use Rattle.note_bodies.specs.declared.ons.On.{On}
use Rattle.note_bodies.specs.declared.writing.TheConstants.{MAX_ONS}

-- what messages build on, the chunk of their operations, and how many they are
pub record Begun : Type 0 where
  pub ons : List On
  pub chunk : Written
  pub count : ℕ

-- a body of no messages
abbrev pub nothing_said : (text : ℕ) → Begun
nothing_said text = record { ons = []; chunk = nothing_written text; count = 0 }

-- what the message of this index builds on, if it says that
abbrev pub said_on : ℕ → Option ℕ → List On
said_on index None = []
said_on index (Some hash) = record { index = index; hash = hash } ∷ []

-- with a message more
abbrev pub added_on : Begun → Placed → Option ℕ → Begun
added_on w p on = record {
  ons = w.ons ++ said_on w.count on;
  chunk = written_on w.chunk p;
  count = w.count + 1;
}

-- a message that says this, or nothing, has room beside those that are there, whatever its operation
abbrev pub BodyHasRoom : Begun → Option ℕ → Type 0
BodyHasRoom w on = (w.count < 2 ^ 16 - 1) × ((on ≡ None) ⊎ (length w.ons < MAX_ONS))

-- it has room for a message of this operation that says this, and the operation can come next
pub record CanBeAdded (w : Begun) (p : Placed) (on : Option ℕ) : Type 0 where
  pub room : BodyHasRoom w on
  pub next : IsNext (begun w.chunk.told p) p.op
  pub fits : fits w.chunk p ≡ true

-- these messages were added one after the other, where each had room and its operation, before which its site's file is so long,
-- could come
abbrev pub AreAddedInTurn : (text : ℕ) → (len : Operation → ℕ) → (old : Begun) → List Saying → (new : Begun) → Type 0
AreAddedInTurn text len old [] new = new ≡ old
AreAddedInTurn text len old (s ∷ said) new =
    CanBeAdded old (placed s.op (len s.op)) s.on × CanCome old.chunk.told text (placed s.op (len s.op))
    × AreAddedInTurn text len (added_on old (placed s.op (len s.op)) s.on) said new

-- an index, and a hash
abbrev pub on_spelling : On → List ℕ
on_spelling on = number_spelling w16 on.index ++ hash_bytes on.hash

-- how many messages say what they build on, that, and the chunk
abbrev pub body_spelling : List On → (chunk : List ℕ) → List ℕ
body_spelling ons chunk = number_spelling w16 (length ons) ++ flat_map on_spelling ons ++ chunk
