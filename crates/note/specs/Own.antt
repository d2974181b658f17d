-- What the functions that make own entries say to one another.
use Rattle.std.specs.Prelude.{◌≡◌, ℕ, ◌+◌, ◌-◌, ◌^◌, ◌<◌, ◌≤◌, min, List, [], ◌∷◌, ◌++◌, filter, length, take, Option}
use Rattle.operations.specs.Operation.{Operation}
use Rattle.tree_order.specs.Good.{file_before}
use Rattle.set_laws.specs.Fronts.{front_of}
use Rattle.chunks.specs.Chunks.{Placed}
use Rattle.chunks.specs.Parts.{placed}
use Rattle.note_laws.specs.Note.{Note, Entries, Saying}
use Rattle.note_laws.specs.Admission.{BuildsOn}
use Rattle.note_laws.specs.Chains.{operations}
use Rattle.note_hashes.specs.Hashes.{digest_of, said_by}
use Rattle.note_bodies.specs.Bodies.{AreSaidInTurn}
use Rattle.note_bodies.specs.Writing.{AreAddedInTurn, Begun, CanBeAdded, added_on, nothing_said}
use Rattle.note_admission.specs.Continuing.{AreMentionedIn}
use Rattle.note_admission.specs.Growing.{AreTaken}
use Rattle.note.specs.Texts.{NoteText}
use Rattle.note.specs.Editing.{AreNumberedOn, BuildInTurn, IsOwnEntryOf, is_own_left, last_hash}
use Rattle.note.specs.declared.own_entry.OwnEntry.{OwnEntry}
use Rattle.note.specs.declared.own_entry.Turn.{Turn}

-- how long the site's file is before an operation that was taken in
abbrev pub len_in : NoteText → Operation → ℕ
len_in t op = file_before t.replica.operations op.site op.seq

-- an operation that was taken in, with that length
abbrev pub placed_in : NoteText → Operation → Placed
placed_in t op = placed op (len_in t op)

-- the messages that were put into entries so far: those of the own operations before this place
pub record HaveSaid (key : List ℕ) (author : ℕ) (t : NoteText) (last : ℕ) (turn : Turn) (said : List Saying) : Type 0 where
  pub place : turn.place ≤ length t.replica.operations
  pub are : operations said ≡ filter (λ op. is_own_left t op) (take turn.place t.replica.operations)
  pub numbered : AreNumberedOn t said
  pub few : front_of t.admission.ops t.replica.site + length said < 2 ^ 32
  pub next : turn.seq ≡ min (front_of t.admission.ops t.replica.site + length said + 1) (2 ^ 32 - 1)
  pub before : turn.before ≡ last_hash last said
  pub in_turn : AreSaidInTurn key author last said
  pub between : AreMentionedIn t.replica.site said turn.between
  pub build : BuildInTurn key t said

-- a message of this operation was put into a body
pub record PutsSaying (key : List ℕ) (author : ℕ) (t : NoteText) (op : Operation) (turn new : Turn) (body grown : Begun)
    : Type 0 where
  pub on : Option ℕ
  pub builds : (note : Note) (entries : Entries) (admitted more : List Saying) → note.digest ≡ digest_of key
      → AreTaken note entries t.admission admitted → AreMentionedIn op.site more turn.between → (s : Saying)
      → s.op ≡ op → s.on ≡ on → BuildsOn note (admitted ++ more) s
  pub between : (more : List Saying) (s : Saying) → s.op ≡ op → AreMentionedIn op.site more turn.between
      → AreMentionedIn op.site (more ++ s ∷ []) new.between
  pub place : new.place ≡ turn.place
  pub seq : new.seq ≡ min (op.seq + 1) (2 ^ 32 - 1)
  pub before : new.before ≡ (said_by key author turn.before op on).hash
  pub room : CanBeAdded body (placed_in t op) on
  pub body_is : grown ≡ added_on body (placed_in t op) on

-- it had no room there
pub record HasNoRoom (t : NoteText) (op : Operation) (turn new : Turn) (body left : Begun) : Type 0 where
  pub same_turn : new ≡ turn
  pub same_body : left ≡ body
  pub on : Option ℕ
  pub full : ¬ CanBeAdded body (placed_in t op) on

-- so many more messages went into a body, which was empty; into an empty one the next goes, if there is one
pub record HasPut (key : List ℕ) (author : ℕ) (t : NoteText) (last : ℕ) (said : List Saying) (turn new : Turn) (body : Begun)
    : Type 0 where
  pub more : List Saying
  pub have : HaveSaid key author t last new (said ++ more)
  pub many : body.count ≡ length more
  pub added : AreAddedInTurn t.replica.text (λ op. len_in t op) (nothing_said t.replica.text) more body
  pub on : turn.place + length more ≤ new.place
  pub none : length more ≡ 0 → length t.replica.operations ≤ new.place

-- the entry of the next of them was made
pub record IsNextEntry (key : List ℕ) (author : ℕ) (t : NoteText) (last : ℕ) (said : List Saying) (turn : Turn)
    (entry : OwnEntry) (new : Turn) : Type 0 where
  pub more : List Saying
  pub have : HaveSaid key author t last new (said ++ more)
  pub made : IsOwnEntryOf key author t (front_of t.admission.ops t.replica.site + length said + 1) (last_hash last said) entry more
  pub on : turn.place < new.place
