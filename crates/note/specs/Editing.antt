-- Edits of a site's own, in a text of a note.
use Rattle.std.specs.Prelude.{◌≡◌, ◌≢◌, ℕ, ◌+◌, ◌-◌, ◌<◌, ◌≤◌, nat_lt, ◌==◌, ◌&&◌, Bool, IsTrue, List, [], ◌∷◌, ◌++◌, filter, length, slice_get, slice_index_or, take, Result, Some}
use Rattle.operations.specs.Operation.{Operation}
use Rattle.set_laws.specs.Fronts.{front_of}
use Rattle.texts.specs.Edit.{insertion, deletion, looks_change}
use Rattle.texts.specs.Named.{EditsByNamesSending, are_here}
use Rattle.texts.specs.Outcome.{EditsSending}
use Rattle.texts.specs.TextState.{TextState, shown_of}
use Rattle.texts.specs.declared.edit_refusal.EditRefusal.{EditRefusal}
use Rattle.note_laws.specs.Note.{Note, Entries, Saying}
use Rattle.note_laws.specs.Admission.{BuildsOn}
use Rattle.note_laws.specs.Chains.{operations}
use Rattle.note_admission.specs.Growing.{AreTaken, IsLastHash}
use Rattle.note_hashes.specs.Hashes.{digest_of, said_by}
use Rattle.note_bodies.specs.Bodies.{AreMessagesOf, AreSaidInTurn, CanHaveMessages}
use Rattle.note.specs.Notes.{NoteSeen}
use Rattle.note.specs.Texts.{NoteText}
use Rattle.note.specs.declared.own_edit.OwnEdit.{OwnEdit}
use Rattle.note.specs.declared.own_entry.OwnEntry.{OwnEntry}
use Rattle.note.specs.declared.own_edit.OwnEdit.TheVariants.{Insert, Delete, ChangeLooks, ByNames}

-- its positions lie in the text, and the characters that it names are here
abbrev pub FitsText : OwnEdit → TextState → Type 0
FitsText (Insert pos buffer) t = pos ≤ length (shown_of t)
FitsText (Delete beg end) t = (beg ≤ end) × (end ≤ length (shown_of t))
FitsText (ChangeLooks beg end sel looks) t = (beg ≤ end) × (end ≤ length (shown_of t))
FitsText (ByNames what names) t = IsTrue (are_here t names.items)

-- what a replica's edit does
abbrev pub DoesEdit : OwnEdit → TextState → Result ℕ EditRefusal → TextState → (sent sent' : List (List ℕ)) → Type 0
DoesEdit (Insert pos buffer) t result new sent sent' = EditsSending t (insertion pos buffer) result new sent sent'
DoesEdit (Delete beg end) t result new sent sent' = EditsSending t (deletion beg end) result new sent sent'
DoesEdit (ChangeLooks beg end sel looks) t result new sent sent' =
    EditsSending t (looks_change beg end sel looks) result new sent sent'
DoesEdit (ByNames what names) t result new sent sent' = EditsByNamesSending t what names.items result new sent sent'

-- the replica of a text was edited, and nothing else changed
abbrev pub HasEditedText : OwnEdit → (old : NoteText) → Result ℕ EditRefusal → (new : NoteText) → (sent sent' : List (List ℕ))
    → Type 0
HasEditedText edit old result new sent sent' =
    DoesEdit edit old.replica result new.replica sent sent' × (new ≡ record old { replica = new.replica })

-- a text of a note
abbrev pub numbered_text : NoteSeen → (text : ℕ) → NoteText → NoteText
numbered_text n text d = slice_index_or n.texts (text - 1) d

-- but for this text it is as before
pub record IsOtherwiseAsBefore (text : ℕ) (old new : NoteSeen) : Type 0 where
  pub rest : new ≡ record old { texts = new.texts }
  pub many : length new.texts ≡ length old.texts
  pub others : (k : ℕ) (d : NoteText) → k + 1 ≢ text → slice_index_or new.texts k d ≡ slice_index_or old.texts k d

-- of what is admitted of a number this is the last one's hash
abbrev pub IsLastOfText : NoteText → (site hash : ℕ) → Type 0
IsLastOfText t site hash =
    (note : Note) (entries : Entries) (admitted : List Saying) → AreTaken note entries t.admission admitted
    → IsLastHash admitted site hash

-- an author says it after this message, with its hash, and what it builds on
pub record IsSaidWell (key : List ℕ) (author before : ℕ) (op : Operation) (t : NoteText) (s : Saying) : Type 0 where
  pub said : s ≡ said_by key author before op s.on
  pub builds : (note : Note) (entries : Entries) (admitted : List Saying) → note.digest ≡ digest_of key
      → AreTaken note entries t.admission admitted → BuildsOn note admitted s

-- an entry of messages by this author, of the text's site
pub record IsOwnEntry (author : ℕ) (t : NoteText) (entry : OwnEntry) : Type 0 where
  pub author_is : entry.head.author ≡ author
  pub site_is : entry.head.site ≡ t.replica.site
  pub text_is : entry.head.text ≡ t.replica.text
  pub some : 0 < entry.head.count

-- ---- own messages that don't count yet

-- whether an operation is of the text's own site, beyond what is admitted
abbrev pub is_own_left : NoteText → Operation → Bool
is_own_left t op = (op.site == t.replica.site) && nat_lt (front_of t.admission.ops t.replica.site) op.seq

-- those, in the order of their making
abbrev pub own_left : NoteText → List Operation
own_left t = filter (λ op. is_own_left t op) t.replica.operations

-- their numbers go on after the last one that counts
abbrev pub AreNumberedOn : NoteText → List Saying → Type 0
AreNumberedOn t said =
    (n : ℕ) (s : Saying) → slice_get said n ≡ Some s → s.op.seq ≡ front_of t.admission.ops t.replica.site + n + 1

-- the hash of the last of these messages, or this one where there are none
abbrev pub last_hash : (before : ℕ) → List Saying → ℕ
last_hash before [] = before
last_hash before (s ∷ said) = last_hash s.hash said

-- each says what it builds on, behind what is admitted and those before it
abbrev pub BuildInTurn : (key : List ℕ) → NoteText → List Saying → Type 0
BuildInTurn key t said =
    (note : Note) (entries : Entries) (admitted : List Saying) → note.digest ≡ digest_of key
    → AreTaken note entries t.admission admitted → (n : ℕ) (s : Saying) → slice_get said n ≡ Some s
    → BuildsOn note (admitted ++ take n said) s

-- an entry of these messages, of which the first has this seq, and comes after the message of this hash; if entries may have its
-- head, its body is read as them
pub record IsOwnEntryOf (key : List ℕ) (author : ℕ) (t : NoteText) (seq before : ℕ) (entry : OwnEntry) (said : List Saying)
    : Type 0 where
  pub own : IsOwnEntry author t entry
  pub first : entry.head.first ≡ seq
  pub after : entry.head.before ≡ before
  pub many : entry.head.count ≡ length said
  pub says : CanHaveMessages entry.head → AreMessagesOf key entry.head entry.body.items said

-- entries of these messages, each of which begins where the one before it ends; the first begins with this seq, after this hash
abbrev pub AreEntriesOf : (key : List ℕ) → (author : ℕ) → NoteText → (seq before : ℕ) → List OwnEntry → List Saying → Type 0
AreEntriesOf key author t seq before [] said = said ≡ []
AreEntriesOf key author t seq before (entry ∷ entries) said =
    (own : List Saying) × (rest : List Saying) × (said ≡ own ++ rest) × IsOwnEntryOf key author t seq before entry own
    × AreEntriesOf key author t (seq + length own) (last_hash before own) entries rest

-- The entries say all of the site's own messages of a text that don't count yet, and nothing else: an author says them in turn,
-- after the last one that counts.
pub record SayAllLeft (key : List ℕ) (author : ℕ) (t : NoteText) (entries : List OwnEntry) : Type 0 where
  pub said : List Saying
  pub all : operations said ≡ own_left t
  pub numbered : AreNumberedOn t said
  pub last : ℕ
  pub counts : IsLastOfText t t.replica.site last
  pub in_turn : AreSaidInTurn key author last said
  pub build : BuildInTurn key t said
  pub parts : AreEntriesOf key author t (front_of t.admission.ops t.replica.site + 1) last entries said
