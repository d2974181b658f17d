-- What the calls that edit a text of a note answer and do.
use Rattle.std.specs.Prelude.{◌≡◌, ℕ, ◌<◌, ◌⊎◌, ℤ, nat_le, MatchBool, MatchOption, List, [], length, map, Result}
use Rattle.std.specs.List.{list_all}
use Rattle.char_files.specs.declared.TheConstants.{MAX_FILE}
use Rattle.looks.specs.Looks.{plain_looks}
use Rattle.looks.specs.Refusal.{number_of}
use Rattle.looks.specs.Sel.{Selection, bits_of}
use Rattle.looks.specs.declared.refusal.Refusal.TheVariants.{OutOfMemory}
use Rattle.operations.specs.NameSet.{Range}
use Rattle.texts.specs.Edit.{is_range_in}
use Rattle.texts.specs.TextState.{TextState, shown_of}
use Rattle.texts.specs.declared.by_names.ByNames.{ByNames}
use Rattle.texts.specs.declared.edit_refusal.EditRefusal.{EditRefusal}
use Rattle.note.specs.Editing.{HasEditedText, IsOtherwiseAsBefore, numbered_text}
use Rattle.note.specs.Notes.{KeepsEntries}
use Rattle.note.specs.Texts.{NoteText}
use Rattle.note.specs.declared.own_edit.OwnEdit.{OwnEdit}
use Rattle.note.specs.declared.own_edit.OwnEdit.TheVariants.{ByNames as Named, ChangeLooks, Delete, Insert}
use Rattle.vialshoal_c.specs.Editing.{AreLooks, AreLooksOf, asked_looks, number_of_edit, sent_by}
use Rattle.vialshoal_c.specs.Naming.{is_here, is_range, replica_ranges}
use Rattle.vialshoal_c.specs.NoteState.{NoteState, note_text_in}
use Rattle.vialshoal_c.specs.declared.inputs.CharNames.{CharNames}
use Rattle.vialshoal_c.specs.declared.numbers.TheConstants.{NO_NAME, NO_NUMBER, OUT_OF_TEXT, TOO_LONG}

-- the text of this number does this edit and answers it, and nothing else changes
pub record EditsNoteText (s : NoteState) (text : ℕ) (edit : OwnEdit) (number sent : ℕ) (new : NoteState) : Type 0 where
  pub answer : Result ℕ EditRefusal
  pub messages : List (List ℕ)
  pub own : (d : NoteText) → HasEditedText edit (numbered_text s.note text d) answer (numbered_text new.note text d) [] messages
  pub rest : IsOtherwiseAsBefore text s.note new.note
  pub keeps : KeepsEntries s.note new.note
  pub number_is : number ≡ number_of_edit answer
  pub sent_is : sent ≡ sent_by answer
  pub told : new.told ≡ s.told

-- nothing is edited, and the number says why
abbrev pub EditsNothing : (why : ℕ) → NoteState → (number sent : ℕ) → NoteState → Type 0
EditsNothing why s number sent new = (number ≡ why) × (sent ≡ 0) × (new ≡ s)

-- this is done to the text of this number, if the note has it; elsewhere nothing is edited
abbrev pub EditsNumbered : NoteState → (text number sent : ℕ) → NoteState → (TextState → Type 0) → Type 0
EditsNumbered s text number sent new does =
    MatchOption (note_text_in s.note text) (EditsNothing NO_NUMBER s number sent new) does

-- an edit is handed all of these; or, where they are any at all, memory to hand them on was refused
abbrev pub EditsHanded : {X : Type 0} → List X → NoteState → (number sent : ℕ) → NoteState → (edits : Type 0) → Type 0
EditsHanded what s number sent new edits =
    edits ⊎ ((0 < length what) × EditsNothing (number_of OutOfMemory) s number sent new)

-- bytes are put into the text of this number, in default looks, if they aren't too many, and the place is one in it
abbrev pub InsertsInto : NoteState → (text pos : ℕ) → (bytes : List ℕ) → (number sent : ℕ) → NoteState → Type 0
InsertsInto s text pos bytes number sent new =
    EditsNumbered s text number sent new (λ t.
    MatchBool (nat_le (length bytes) MAX_FILE)
    (MatchBool (nat_le pos (length (shown_of t)))
    (EditsHanded bytes s number sent new
    (EditsNoteText s text (Insert pos (map (λ b. (b, plain_looks)) bytes)) number sent new))
    (EditsNothing OUT_OF_TEXT s number sent new))
    (EditsNothing TOO_LONG s number sent new))

-- the text of this number does this edit of a range, if the range lies in it
abbrev pub EditsRange : NoteState → (text beg end : ℕ) → OwnEdit → (number sent : ℕ) → NoteState → Type 0
EditsRange s text beg end edit number sent new =
    EditsNumbered s text number sent new (λ t.
    MatchBool (is_range_in t beg end) (EditsNoteText s text edit number sent new) (EditsNothing OUT_OF_TEXT s number sent new))

-- the characters of a range are taken out of what the text of this number shows, if the range lies in it
abbrev pub DeletesRange : NoteState → (text beg end number sent : ℕ) → NoteState → Type 0
DeletesRange s text beg end number sent new = EditsRange s text beg end (Delete beg end) number sent new

-- characters of the text of this number are given the looks of these that the bits select, if they select any, and these
-- are looks
abbrev pub DressesRange : NoteState → (text beg end bits : ℕ) → (font : List ℕ) → (colour : ℕ) → (offset : ℤ)
    → (number sent : ℕ) → NoteState → Type 0
DressesRange s text beg end bits font colour offset number sent new =
    ((sel : Selection) × (bits_of sel ≡ bits) × (0 < bits) × AreLooks sel font colour
    × EditsRange s text beg end (ChangeLooks beg end sel (asked_looks sel font colour offset)) number sent new)
    ⊎ ((AreLooksOf bits font colour → ⊥) × EditsNothing NO_NUMBER s number sent new)

-- it hides or shows the characters of these names
abbrev pub IsOfNames : OwnEdit → ByNames → List Range → Type 0
IsOfNames (Named hides names) what ranges = (hides ≡ what) × (names.items ≡ ranges)
IsOfNames _ what ranges = ⊥

-- the text of this number hides or shows these characters; or memory to hand their names on was refused
abbrev pub EditsNamed : NoteState → (text : ℕ) → ByNames → List CharNames → (number sent : ℕ) → NoteState → Type 0
EditsNamed s text what names number sent new =
    EditsHanded names s number sent new
    ((edit : OwnEdit) × IsOfNames edit what (replica_ranges names) × EditsNoteText s text edit number sent new)

-- The same where all of them are names, and names of characters that the text has; elsewhere nothing is edited.
abbrev pub EditsNoteNames : NoteState → (text : ℕ) → ByNames → List CharNames → (number sent : ℕ) → NoteState → Type 0
EditsNoteNames s text what names number sent new =
    EditsNumbered s text number sent new (λ t.
    MatchBool (list_all is_range names)
    (MatchBool (list_all (is_here t) names) (EditsNamed s text what names number sent new)
    (EditsNothing NO_NAME s number sent new))
    (EditsNothing NO_NUMBER s number sent new))
