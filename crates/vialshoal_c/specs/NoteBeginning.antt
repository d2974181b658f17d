-- What a note begins with, as C gives it.
use Rattle.std.specs.Prelude.{◌≡◌, ◌<◌, ◌^◌, ◌++◌, ◌⊎◌, ℕ, nat_lt, if◌then◌else◌, MatchBool, List, [], ◌∷◌, length, replicate}
use Rattle.std.specs.Prelude.{Option, None, Some}
use Rattle.std.specs.Int.{to_le_bytes, w16}
use Rattle.operations.specs.Operation.{Operation}
use Rattle.chunks.specs.Chunks.{IsChunkOf, Placed, operations_of}
use Rattle.looks.specs.Refusal.{number_of}
use Rattle.looks.specs.declared.refusal.Refusal.TheVariants.{Malformed, OutOfMemory}
use Rattle.note_laws.specs.Laws.{IsBaseIdentified}
use Rattle.note_laws.specs.Note.{Note, Saying}
use Rattle.note_entries.specs.Bytes.{hash_of}
use Rattle.note_entries.specs.Kept.{no_entries}
use Rattle.note_hashes.specs.Hashes.{copied_by, digest_of}
use Rattle.note_admission.specs.Standing.{BeginsNote}
use Rattle.note_admission.specs.declared.note_chains.Opening.{Opening}
use Rattle.note_bodies.specs.declared.messages.TheConstants.{TEXTS}
use Rattle.note.specs.Editing.{last_hash}
use Rattle.note.specs.Notes.{IsOfEntries, ShowsWhatCounts}
use Rattle.note.specs.Texts.{EachText}
use Rattle.vialshoal_c.specs.History.{framed}
use Rattle.vialshoal_c.specs.NoteState.{NoteState}
use Rattle.vialshoal_c.specs.declared.inputs.NoteHash.{NoteHash}
use Rattle.vialshoal_c.specs.declared.numbers.TheConstants.{ALREADY_OPEN, NO_NUMBER}

-- the bytes are those of a chunk after its length, for which two bytes are enough, and the bytes after it
abbrev pub BeginsWithChunk : (bytes chunk rest : List ℕ) → Type 0
BeginsWithChunk bytes chunk rest =
    (length chunk < 2 ^ 16) × (bytes ≡ to_le_bytes w16 (length chunk) ++ chunk ++ rest)

-- the operations of chunks, one after the other
abbrev pub AreBaseChunks : List (List ℕ) → List Operation → Type 0
AreBaseChunks [] ops = ops ≡ []
AreBaseChunks (chunk ∷ chunks) ops =
    (text : ℕ) × (ps : List Placed) × (rest : List Operation) × IsChunkOf text ps chunk × (ops ≡ operations_of ps ++ rest)
    × AreBaseChunks chunks rest

-- the messages of a base of these operations, each after the one before it, the first after the message of this hash
abbrev pub copied_after : (key : List ℕ) → (before : ℕ) → List Operation → List Saying
copied_after key before [] = []
copied_after key before (op ∷ ops) =
    copied_by key 0 before op ∷ copied_after key (copied_by key 0 before op).hash ops

-- the messages of a chunk were added to those of a base, after the message of this hash, and the last one has this hash
pub record AddsChunk (key : List ℕ) (before : ℕ) (bytes : List ℕ) (old new : List Saying) (last : ℕ) : Type 0 where
  pub text : ℕ
  pub ps : List Placed
  pub is : IsChunkOf text ps bytes
  pub added : new ≡ old ++ copied_after key before (operations_of ps)
  pub last_is : last ≡ last_hash before (copied_after key before (operations_of ps))

-- the bytes are chunks, each after its length, of a base of these messages, whose last one has this hash
pub record IsBaseOf (key : List ℕ) (root : ℕ) (bytes : List ℕ) (base : List Saying) : Type 0 where
  pub chunks : List (List ℕ)
  pub ops : List Operation
  pub framed_so : bytes ≡ framed chunks
  pub are : AreBaseChunks chunks ops
  pub said : base ≡ copied_after key 0 ops
  pub last : last_hash 0 base ≡ root

-- the key by which messages are hashed, the founder and his number, and the base: its key, its last hash and its chunks
pub record Beginning : Type 0 where
  pub key : List ℕ
  pub opening : Opening
  pub base_key : List ℕ
  pub root : ℕ
  pub chunks : List ℕ

-- this beginning, where the founder has the number 0 if he has none
abbrev pub beginning_of : (key founder : NoteHash) → (number : ℕ) → (base_key root : NoteHash) → (chunks : List ℕ) → Beginning
beginning_of key founder number base_key root chunks = record {
  key = key.bytes;
  opening = record {
    founder = hash_of founder.bytes;
    number = if nat_lt 0 number then Some number else None;
  };
  base_key = base_key.bytes;
  root = hash_of root.bytes;
  chunks = chunks;
}

-- It is a note of this key, opening and base, as a site of this number has it: no entry came, what counts is shown, and no
-- changes were asked for.
pub record HasBegun (site : ℕ) (key : List ℕ) (opening : Opening) (base : List Saying) (s : NoteState) : Type 0 where
  pub of : (note : Note) → note.digest ≡ digest_of key → BeginsNote opening note → note.base ≡ base
      → IsBaseIdentified note → IsOfEntries s.note note no_entries
  pub key_is : s.note.key ≡ key
  pub shows : ShowsWhatCounts s.note
  pub site_is : EachText (λ k t. t.replica.site ≡ site) s.note.texts
  pub told : s.told ≡ replicate TEXTS []

-- A note begins so; or the chunks are none of such a base; or memory was refused.
abbrev pub BeginsNoteSo : (site : ℕ) → Beginning → (number : ℕ) → Option NoteState → Type 0
BeginsNoteSo site b number new =
    ((base : List Saying) × (s : NoteState) × IsBaseOf b.base_key b.root b.chunks base × HasBegun site b.key b.opening base s
    × (number ≡ 0) × (new ≡ Some s))
    ⊎ (((number ≡ number_of Malformed) × (new ≡ None) × ((base : List Saying) → ¬ IsBaseOf b.base_key b.root b.chunks base))
    ⊎ ((number ≡ number_of OutOfMemory) × (new ≡ None)))

-- an empty handle begins a note, if the number is that of a site; one that is open stays so
abbrev pub BeginsNoteIn : Option NoteState → (site : ℕ) → Beginning → (number : ℕ) → Option NoteState → Type 0
BeginsNoteIn (Some s) site b number new = (number ≡ ALREADY_OPEN) × (new ≡ Some s)
BeginsNoteIn None site b number new =
    MatchBool (nat_lt 0 site) (BeginsNoteSo site b number new) ((number ≡ NO_NUMBER) × (new ≡ None))
