-- What a call does to a text of a note, from what its parts do.
use Rattle.std.proofs.Common.{◌≡◌, ◌≤◌, ◌⊎◌, ℕ, nat_le, Bool, true, false, MatchBool, List, length, map, Some, refl, sym, subst, inl, inr}
use Rattle.std.proofs.lemmas.Bool.{le-leb}
use Rattle.char_files.specs.declared.TheConstants.{MAX_FILE}
use Rattle.looks.specs.Looks.{plain_looks}
use Rattle.looks.specs.declared.looks.Looks.{Looks}
use Rattle.looks.specs.Refusal.{number_of}
use Rattle.looks.specs.declared.refusal.Refusal.TheVariants.{Behind, OutOfMemory}
use Rattle.texts.specs.TextState.{TextState, shown_of}
use Rattle.note.specs.declared.own_edit.OwnEdit.TheVariants.{Insert}
use Rattle.vialshoal_c.specs.NoteEditing.{EditsNoteText, InsertsInto}
use Rattle.vialshoal_c.specs.NoteAsking.{PutsOwn, TellsNoOwn}
use Rattle.vialshoal_c.specs.NoteState.{NoteState, is_note_text, note_text_in}
use Rattle.vialshoal_c.specs.Outputs.{PutsNone}
use Rattle.vialshoal_c.specs.declared.inputs.EntryHead.{EntryHead}
use Rattle.vialshoal_c.specs.declared.numbers.TheConstants.{NO_NUMBER}
use Rattle.vialshoal_c.proofs.NoteTexts.{edits_here}
use Rattle.vialshoal_c.proofs.Told.{where_true}

pub inserts_here : (s : NoteState) (text k pos : ℕ) (bytes : List ℕ) (looks : Looks) (buffer : List (ℕ × Looks)) (number sent : ℕ)
    (new : NoteState) (t : TextState) → Some t ≡ note_text_in s.note text → k ≡ text → nat_le (length bytes) MAX_FILE ≡ true
    → pos ≤ length (shown_of t) → looks ≡ plain_looks → buffer ≡ map (λ b. (b, looks)) bytes
    → EditsNoteText s k (Insert pos buffer) number sent new → InsertsInto s text pos bytes number sent new
inserts_here s text k pos bytes looks buffer number sent new t here same few within plain is edits =
    let buffer_is : buffer ≡ map (λ b. (b, plain_looks)) bytes = subst (λ (l : Looks). buffer ≡ map (λ b. (b, l)) bytes) plain is in
    let one : EditsNoteText s text (Insert pos buffer) number sent new =
    subst (λ (n : ℕ). EditsNoteText s n (Insert pos buffer) number sent new) same edits in
    let whole : EditsNoteText s text (Insert pos (map (λ b. (b, plain_looks)) bytes)) number sent new =
    subst (λ (l : List (ℕ × Looks)). EditsNoteText s text (Insert pos l) number sent new) buffer_is one in
    edits_here s text number sent new _ t here
    (where_true _ _ _ few (where_true _ _ _ (le-leb pos (length (shown_of t)) within) (inl whole)))

module _ (was : EntryHead) (old : List ℕ) (put need : ℕ) (zero_is : need ≡ 0) where
  none_where : (b : Bool) (some : Type 0)
      → MatchBool b ((put ≡ number_of Behind) ⊎ (put ≡ number_of OutOfMemory)) (put ≡ NO_NUMBER)
      → MatchBool b (some ⊎ (MatchBool b ((put ≡ number_of Behind) ⊎ (put ≡ number_of OutOfMemory)) (put ≡ NO_NUMBER)
      × (need ≡ 0) × (old ≡ old) × (was ≡ was))) (PutsNone NO_NUMBER old put need old × (was ≡ was))
  none_where true some why = inr (why, zero_is, refl, refl)
  none_where false some why = ((why, zero_is, refl), refl)

  -- nothing is put there where there are no own entries to tell
  pub none_own : (s : NoteState) (text author index number : ℕ) → put ≡ number → TellsNoOwn text number
      → PutsOwn s text author index was was old put need old
  none_own s text author index number same why =
      none_where (is_note_text text) _ (subst (λ (n : ℕ). TellsNoOwn text n) (sym same) why)
