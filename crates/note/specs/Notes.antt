-- A note as a value.
use Rattle.std.specs.Prelude.{◌≡◌, ℕ, ◌+◌, List, ◌++◌, ◌⊎◌, length}
use Rattle.note_laws.specs.Note.{Note, Entries, Saying, Claim}
use Rattle.note_laws.specs.Laws.{AreToldApart}
use Rattle.note_entries.specs.Kept.{with_claim, with_saying}
use Rattle.note_hashes.specs.Hashes.{digest_of}
use Rattle.note_admission.specs.Standing.{AreChainsOf, ChainsSeen}
use Rattle.note_bodies.specs.Bodies.{AreMessagesOf}
use Rattle.note_bodies.specs.declared.messages.Head.{Head}
use Rattle.note_bodies.specs.declared.messages.TheConstants.{TEXTS}
use Rattle.note.specs.Texts.{EachText, IsTextOfNote, IsUpToDate, NoteText}

-- what is seen of a note: its key, its chains, and its texts
pub record NoteSeen : Type 0 where
  pub key : List ℕ
  pub chains : ChainsSeen
  pub texts : List NoteText

-- the texts have the numbers from 1 on
pub record AreNumberedTexts (texts : List NoteText) : Type 0 where
  pub many : length texts ≡ TEXTS
  pub numbers : EachText (λ k t. t.admission.text ≡ k + 1) texts

-- it is of this note, and these entries came
pub record IsOfEntries (n : NoteSeen) (note : Note) (entries : Entries) : Type 0 where
  pub digest : note.digest ≡ digest_of n.key
  pub chains : AreChainsOf n.chains note entries
  pub texts : EachText (λ k t. IsTextOfNote note entries t) n.texts

-- all that counts is taken in by each text
abbrev pub ShowsWhatCounts : NoteSeen → Type 0
ShowsWhatCounts n = EachText (λ k t. IsUpToDate t) n.texts

-- it is of these entries, and shows what counts of them
pub record ShowsEntries (n : NoteSeen) (note : Note) (entries : Entries) : Type 0 where
  pub of : IsOfEntries n note entries
  pub shows : ShowsWhatCounts n

-- no more entries came
abbrev pub KeepsEntries : (old new : NoteSeen) → Type 0
KeepsEntries old new = (note : Note) (entries : Entries) → IsOfEntries old note entries → IsOfEntries new note entries

-- one message more came
abbrev pub TakesSaying : (old : NoteSeen) → Saying → (new : NoteSeen) → Type 0
TakesSaying old s new = (note : Note) (entries : Entries) → AreToldApart (with_saying entries s)
    → IsOfEntries old note entries → IsOfEntries new note (with_saying entries s)

-- more messages, in this order
abbrev pub with_sayings : Entries → List Saying → Entries
with_sayings entries more = record { claims = entries.claims; said = entries.said ++ more }

-- they came
abbrev pub TakesSayings : (old : NoteSeen) → List Saying → (new : NoteSeen) → Type 0
TakesSayings old more new = (note : Note) (entries : Entries) → AreToldApart (with_sayings entries more)
    → IsOfEntries old note entries → IsOfEntries new note (with_sayings entries more)

-- the messages of an entry with this head and this body came
abbrev pub TakesEntry : (old : NoteSeen) → Head → (body : List ℕ) → (new : NoteSeen) → Type 0
TakesEntry old head body new =
    (sayings : List Saying) × AreMessagesOf old.key head body sayings × TakesSayings old sayings new

-- nothing of it came, or only the first of its messages
abbrev pub TakesSomeOf : (old : NoteSeen) → Head → (body : List ℕ) → (new : NoteSeen) → Type 0
TakesSomeOf old head body new =
    KeepsEntries old new
    ⊎ ((came rest : List Saying) × AreMessagesOf old.key head body (came ++ rest) × TakesSayings old came new)

-- one claim more came
abbrev pub TakesClaim : (old : NoteSeen) → Claim → (new : NoteSeen) → Type 0
TakesClaim old claim new = (note : Note) (entries : Entries) → AreToldApart (with_claim entries claim)
    → IsOfEntries old note entries → IsOfEntries new note (with_claim entries claim)
