-- What a note is asked, beside what its texts show.
use Rattle.std.specs.Prelude.{◌≡◌, ◌-◌, ◌⊎◌, ◌==◌, ℕ, nat_lt, MatchBool, MatchOption, if◌then◌else◌, Bool, true, List, [], length, slice_get, slice_index_or, slice_set, Option}
use Rattle.list_changes.specs.declared.change.Change.{Change}
use Rattle.looks.specs.Refusal.{number_of}
use Rattle.looks.specs.declared.refusal.Refusal.TheVariants.{Behind, OutOfMemory}
use Rattle.note.specs.Editing.{IsOtherwiseAsBefore, SayAllLeft, numbered_text}
use Rattle.note.specs.Notes.{KeepsEntries, NoteSeen}
use Rattle.note.specs.Texts.{NoteText, ReportsChanges}
use Rattle.note.specs.declared.own_entry.OwnEntry.{OwnEntry}
use Rattle.vialshoal_c.specs.Asking.{Hands}
use Rattle.vialshoal_c.specs.NoteFeeding.{c_head}
use Rattle.vialshoal_c.specs.NoteState.{NoteState, is_note_text}
use Rattle.vialshoal_c.specs.Outputs.{Puts, PutsNone}
use Rattle.vialshoal_c.specs.declared.inputs.EntryHead.{EntryHead}
use Rattle.vialshoal_c.specs.declared.numbers.TheConstants.{NO_MESSAGE, NO_NUMBER}
use Rattle.vialshoal_c.specs.declared.outputs.TextChange.{TextChange}

-- ---- own entries

-- the entries say all of the site's own messages of this text that don't count yet, by this author, and nothing else
abbrev pub SayOwn : NoteState → (text author : ℕ) → List OwnEntry → Type 0
SayOwn s text author entries = (d : NoteText) → SayAllLeft s.note.key author (numbered_text s.note text d) entries

-- there are no entries to tell: the note has no such text, a message mentions what doesn't count, or memory was refused
abbrev pub TellsNoOwn : (text number : ℕ) → Type 0
TellsNoOwn text number =
    MatchBool (is_note_text text) ((number ≡ number_of Behind) ⊎ (number ≡ number_of OutOfMemory)) (number ≡ NO_NUMBER)

-- an entry's body is put there, and its head is written where the room is long enough
abbrev pub PutsEntry : OwnEntry → (was head : EntryHead) → (old : List ℕ) → (number need : ℕ) → (new : List ℕ) → Type 0
PutsEntry entry was head old number need new =
    Puts entry.body.items old number need new × (head ≡ (if number == 0 then c_head entry.head else was))

-- the same of the entry at this index, if there is one
abbrev pub PutsEntryAt : List OwnEntry → (index : ℕ) → (was head : EntryHead) → (old : List ℕ) → (number need : ℕ)
    → (new : List ℕ) → Type 0
PutsEntryAt entries index was head old number need new =
    MatchOption (slice_get entries index) (PutsNone NO_MESSAGE old number need new × (head ≡ was))
    (λ entry. PutsEntry entry was head old number need new)

-- the same of the entries that say all own messages of this text that don't count yet, if there are any to tell
abbrev pub PutsOwn : NoteState → (text author index : ℕ) → (was head : EntryHead) → (old : List ℕ) → (number need : ℕ)
    → (new : List ℕ) → Type 0
PutsOwn s text author index was head old number need new =
    MatchBool (is_note_text text)
    (((entries : List OwnEntry) × SayOwn s text author entries × PutsEntryAt entries index was head old number need new)
    ⊎ (TellsNoOwn text number × (need ≡ 0) × (new ≡ old) × (head ≡ was)))
    (PutsNone NO_NUMBER old number need new × (head ≡ was))

-- ---- changes

-- the changes of this text that were asked for and not handed out yet
abbrev pub told_of_text : NoteState → (text : ℕ) → List Change
told_of_text s text = slice_index_or s.told (text - 1) []

-- these changes of this text go into a room that is long enough for all of them, or are kept until one comes
abbrev pub HandsOf : NoteState → (text : ℕ) → List Change → (old : List TextChange) → (number need : ℕ)
    → (new : List TextChange) → (told : List (List Change)) → Type 0
HandsOf s text changes old number need new told =
    (kept : List Change) × Hands changes old number need new kept × (told ≡ slice_set s.told (text - 1) kept)

-- the note was asked for the changes of this text, and answered this
pub record AsksForChanges (s : NoteSeen) (text : ℕ) (answer : Option (List Change)) (new : NoteSeen) : Type 0 where
  pub own : (d : NoteText) → ReportsChanges (numbered_text s text d) answer (numbered_text new text d)
  pub rest : IsOtherwiseAsBefore text s new
  pub keeps : KeepsEntries s new

-- What it answers is handed out; or, where the text was begun anew, that is said, and nothing is put there.
abbrev pub TellsAnswer : NoteState → (text : ℕ) → Option (List Change) → (was is_anew : Bool) → (old : List TextChange)
    → (number need : ℕ) → (new : List TextChange) → (told : List (List Change)) → Type 0
TellsAnswer s text answer was is_anew old number need new told =
    MatchOption answer (PutsNone 0 old number need new × (is_anew ≡ true) × (told ≡ s.told))
    (λ changes. HandsOf s text changes old number need new told × (is_anew ≡ was))

-- The changes of this text that were asked for before, and wouldn't go into a room; where there are none, the note is asked.
abbrev pub TellsChangesOf : NoteState → (text : ℕ) → (was is_anew : Bool) → (old : List TextChange) → (number need : ℕ)
    → (new : List TextChange) → NoteState → Type 0
TellsChangesOf s text was is_anew old number need new s' =
    MatchBool (nat_lt 0 (length (told_of_text s text)))
    (HandsOf s text (told_of_text s text) old number need new s'.told × (is_anew ≡ was) × (s'.note ≡ s.note))
    ((answer : Option (List Change)) × AsksForChanges s.note text answer s'.note
    × TellsAnswer s text answer was is_anew old number need new s'.told)

-- the same of the text of this number, if a note can have it
abbrev pub TellsChangesIn : NoteState → (text : ℕ) → (was is_anew : Bool) → (old : List TextChange) → (number need : ℕ)
    → (new : List TextChange) → NoteState → Type 0
TellsChangesIn s text was is_anew old number need new s' =
    MatchBool (is_note_text text) (TellsChangesOf s text was is_anew old number need new s')
    (PutsNone NO_NUMBER old number need new × (is_anew ≡ was) × (s' ≡ s))
