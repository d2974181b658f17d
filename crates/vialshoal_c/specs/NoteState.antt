-- What contracts see of a note that a handle holds.
use Rattle.std.specs.Prelude.{◌≡◌, ℕ, ◌-◌, ◌&&◌, Bool, nat_le, nat_lt, List, slice_get, Option, Some, None, if◌then◌else◌, MatchOption}
use Rattle.std.specs.Option.{option_map}
use Rattle.list_changes.specs.declared.change.Change.{Change}
use Rattle.texts.specs.TextState.{TextState}
use Rattle.note.specs.Notes.{NoteSeen}
use Rattle.note_bodies.specs.declared.messages.TheConstants.{TEXTS}
use Rattle.vialshoal_c.specs.declared.numbers.TheConstants.{NO_NUMBER}

-- the note; of each of its texts the changes that were asked for and not handed out yet
pub record NoteState : Type 0 where
  pub note : NoteSeen
  pub told : List (List Change)

-- whether it is the number of a text of a note
abbrev pub is_note_text : ℕ → Bool
is_note_text text = nat_lt 0 text && nat_le text TEXTS

-- such a number, if it is one
abbrev pub note_text : ℕ → Option ℕ
note_text text = if is_note_text text then Some text else None

-- the replica of a text, if the note has it
abbrev pub note_text_in : NoteSeen → (text : ℕ) → Option TextState
note_text_in n text = if is_note_text text then option_map (λ t. t.replica) (slice_get n.texts (text - 1)) else None

-- this of the text of this number, if the note has it; elsewhere the number says that there is none, and this holds
abbrev pub OfText : NoteState → (text number : ℕ) → (idle : Type 0) → (TextState → Type 0) → Type 0
OfText s text number idle says = MatchOption (note_text_in s.note text) ((number ≡ NO_NUMBER) × idle) says
