-- A text of a note, by its number.
use Rattle.std.proofs.Common.{◌≡◌, ◌-◌, ◌<◌, ◌≤◌, ℕ, Bool, true, false, cond, nat_lt, nat_le, Option, Some, None, MatchOption, refl, sym, ap, subst, ◌∙◌, leb-true, arith}
use Rattle.std.specs.Prelude.{slice_get}
use Rattle.std.specs.Option.{option_map}
use Rattle.std.proofs.lemmas.Bool.{and_parts, ltb-true}
use Rattle.std.proofs.lemmas.Option.{get_or_from_slice_get, same_Some}
use Rattle.texts.specs.TextState.{TextState}
use Rattle.note_bodies.specs.declared.messages.TheConstants.{TEXTS}
use Rattle.note.specs.Editing.{numbered_text}
use Rattle.note.specs.Notes.{NoteSeen}
use Rattle.note.specs.Texts.{NoteText}
use Rattle.vialshoal_c.specs.NoteEditing.{EditsNothing, EditsNumbered}
use Rattle.vialshoal_c.specs.NoteState.{NoteState, is_note_text, note_text, note_text_in}
use Rattle.vialshoal_c.specs.declared.numbers.TheConstants.{NO_NUMBER}

numbered : (b : Bool) (text number : ℕ) → Some number ≡ cond b (Some text) None → (number ≡ text) × (b ≡ true)
numbered true text number e = (same_Some number text e, refl)
numbered false text number e = absurd cc

-- the number is that, and one of a note's text
pub number_is : (text number : ℕ) → Some number ≡ note_text text → (number ≡ text) × (is_note_text text ≡ true)
number_is text number e = numbered (is_note_text text) text number e

-- so its place is one of those of a note's texts
pub within_texts : (text number got len : ℕ) → Some number ≡ note_text text → got ≡ number → len ≡ TEXTS → got - 1 < len
within_texts text number got len is same many =
    let num = number_is text number is in
    let both = and_parts (nat_lt 0 text) (nat_le text TEXTS) num.1 in
    let low : 0 < text = ltb-true 0 text both.0 in
    let high : text ≤ TEXTS = leb-true text TEXTS both.1 in
    omega (arith, num.0)

found : (b : Bool) (o : Option NoteText) (t : TextState) → Some t ≡ cond b (option_map (λ (x : NoteText). x.replica) o) None
    → (x : NoteText) × (o ≡ Some x) × (x.replica ≡ t)
found true (Some x) t e = (x, refl, sym (same_Some t x.replica e))
found true None t e = absurd cc
found false o t e = absurd cc

-- the replica that the note has of a text is that of the text of this number
pub replica_is : (n : NoteSeen) (text : ℕ) (t : TextState) (d : NoteText) → Some t ≡ note_text_in n text
    → (numbered_text n text d).replica ≡ t
replica_is n text t d e =
    let (x, here, same) = found (is_note_text text) (slice_get n.texts (text - 1)) t e in
    ap (λ (y : NoteText). y.replica) (get_or_from_slice_get n.texts (text - 1) x d here) ∙ same

pub numbered_is : (n : NoteSeen) (text number : ℕ) (t : TextState) (d : NoteText) → Some number ≡ note_text text
    → Some t ≡ note_text_in n text → (numbered_text n number d).replica ≡ t
numbered_is n text number t d is here =
    subst (λ (k : ℕ). (numbered_text n k d).replica ≡ t) (sym (number_is text number is).0) (replica_is n text t d here)

module _ (s : NoteState) (text number sent : ℕ) (new : NoteState) (does : TextState → Type 0) where
  -- this is done to the text that the note has
  pub edits_here : (t : TextState) → Some t ≡ note_text_in s.note text → does t → EditsNumbered s text number sent new does
  edits_here t here done =
      subst (λ (o : Option TextState). MatchOption o (EditsNothing NO_NUMBER s number sent new) does) here done
