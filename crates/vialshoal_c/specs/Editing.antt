-- What the calls that make and edit a text answer and do.
use Rattle.std.specs.Prelude.{◌≡◌, ℕ, ◌<◌, ◌≤◌, ◌⊎◌, List, map, length, nat_le, MatchBool, Option, Some, None, Result, Ok, Err}
use Rattle.std.specs.Prelude.{nat_lt, ◌&&◌, ℤ, ⊤}
use Rattle.looks.specs.FontName.{IsFontName}
use Rattle.looks.specs.Looks.{plain_looks}
use Rattle.looks.specs.Refusal.{number_of}
use Rattle.looks.specs.Sel.{Selection, bits_of}
use Rattle.looks.specs.declared.colour.TheConstants.{MAX_COLOUR}
use Rattle.looks.specs.declared.looks.Looks.{Looks}
use Rattle.looks.specs.declared.refusal.Refusal.TheVariants.{OutOfMemory}
use Rattle.char_files.specs.declared.TheConstants.{MAX_FILE}
use Rattle.texts.specs.Edit.{Edit, insertion, is_in_text, looks_change}
use Rattle.texts.specs.Order.{with_selected}
use Rattle.texts.specs.Outcome.{EditsSending}
use Rattle.texts.specs.TextState.{TextState, empty_text, shown_of}
use Rattle.texts.specs.declared.edit_refusal.EditRefusal.{EditRefusal}
use Rattle.texts.specs.declared.edit_refusal.EditRefusal.TheVariants.{Whole, Partial}
use Rattle.vialshoal_c.specs.Opened.{IsMisused}
use Rattle.vialshoal_c.specs.SessionState.{SessionState, session_of}
use Rattle.vialshoal_c.specs.declared.numbers.TheConstants.{ALREADY_OPEN, NO_NUMBER, OUT_OF_TEXT, TOO_LONG}

-- the text of this number begins, at the site of this number; or memory was refused
abbrev pub BeginsText : (text site number : ℕ) → Option SessionState → Type 0
BeginsText text site number new =
    ((number ≡ 0) × (new ≡ Some (session_of (empty_text text site)))) ⊎ ((number ≡ number_of OutOfMemory) × (new ≡ None))

-- An empty handle begins a text, if the numbers are those of one; one that is open stays so.
abbrev pub BeginsHandle : Option SessionState → (text site number : ℕ) → Option SessionState → Type 0
BeginsHandle (Some s) text site number new = (number ≡ ALREADY_OPEN) × (new ≡ Some s)
BeginsHandle None text site number new =
    MatchBool (nat_lt 0 text && nat_lt 0 site) (BeginsText text site number new) ((number ≡ NO_NUMBER) × (new ≡ None))

-- the number that says what an edit answered
abbrev pub number_of_edit : Result ℕ EditRefusal → ℕ
number_of_edit (Ok sent) = 0
number_of_edit (Err (Whole why)) = number_of why
number_of_edit (Err (Partial done why)) = number_of why

-- how many messages it sent, which is how many of its operations stand
abbrev pub sent_by : Result ℕ EditRefusal → ℕ
sent_by (Ok sent) = sent
sent_by (Err (Whole why)) = 0
sent_by (Err (Partial done why)) = done

-- the text does this edit and answers it, and its messages come after those that are kept
abbrev pub Edited : SessionState → Edit → (number sent : ℕ) → SessionState → Type 0
Edited s e number sent new =
    (answer : Result ℕ EditRefusal) × EditsSending s.text e answer new.text s.sent new.sent
    × (number ≡ number_of_edit answer) × (sent ≡ sent_by answer) × (new.told ≡ s.told)

-- the same where the edit's positions lie in the text; elsewhere nothing is done
abbrev pub EditsSession : SessionState → Edit → (number sent : ℕ) → SessionState → Type 0
EditsSession s e number sent new =
    MatchBool (is_in_text s.text e) (Edited s e number sent new) (IsMisused OUT_OF_TEXT s number new × (sent ≡ 0))

-- this, where these bytes aren't too many for any text, and the place is one in this text; elsewhere nothing is done
abbrev pub IfTheyFit : SessionState → (pos : ℕ) → (bytes : List ℕ) → (number sent : ℕ) → SessionState → (does : Type 0) → Type 0
IfTheyFit s pos bytes number sent new does =
    MatchBool (nat_le (length bytes) MAX_FILE)
    (MatchBool (nat_le pos (length (shown_of s.text))) does (IsMisused OUT_OF_TEXT s number new × (sent ≡ 0)))
    (IsMisused TOO_LONG s number new × (sent ≡ 0))

-- these bytes are put in so, in these looks
abbrev pub InsertsRun : SessionState → (pos : ℕ) → (bytes : List ℕ) → Looks → (number sent : ℕ) → SessionState → Type 0
InsertsRun s pos bytes looks number sent new =
    IfTheyFit s pos bytes number sent new (Edited s (insertion pos (map (λ b. (b, looks)) bytes)) number sent new)

-- text and messages stay as they are, for want of memory
abbrev pub IsCutShort : SessionState → Result ℕ EditRefusal → SessionState → Type 0
IsCutShort s answer new = (answer ≡ Err (Whole OutOfMemory)) × (new.text ≡ s.text) × (new.sent ≡ s.sent)

-- An edit is handed all of these, and answered so; or, where they are any at all, memory to hand them on was refused.
abbrev pub AnswersHanded : {X : Type 0} → List X → SessionState
    → (Result ℕ EditRefusal → TextState → (sent : List (List ℕ)) → Type 0) → Result ℕ EditRefusal → SessionState → Type 0
AnswersHanded what s does answer new =
    (does answer new.text new.sent ⊎ ((0 < length what) × IsCutShort s answer new)) × (new.told ≡ s.told)

-- an edit's answer, as numbers
abbrev pub Numbered : (Result ℕ EditRefusal → Type 0) → (number sent : ℕ) → Type 0
Numbered answers number sent =
    (answer : Result ℕ EditRefusal) × answers answer × (number ≡ number_of_edit answer) × (sent ≡ sent_by answer)

-- the text puts these bytes in, in these looks, and answers it, and its messages come after those that are kept
abbrev pub AnswersBytes : SessionState → (pos : ℕ) → (bytes : List ℕ) → Looks → Result ℕ EditRefusal → SessionState → Type 0
AnswersBytes s pos bytes looks answer new =
    AnswersHanded bytes s (λ answer text sent. EditsSending s.text (insertion pos (map (λ b. (b, looks)) bytes)) answer text
    s.sent sent) answer new

-- the same as numbers, where they fit
abbrev pub InsertsBytes : SessionState → (pos : ℕ) → (bytes : List ℕ) → Looks → (number sent : ℕ) → SessionState → Type 0
InsertsBytes s pos bytes looks number sent new =
    IfTheyFit s pos bytes number sent new (Numbered (λ answer. AnswersBytes s pos bytes looks answer new) number sent)

-- this font and this colour are those of looks
abbrev pub AreFontAndColour : (font : List ℕ) → (colour : ℕ) → Type 0
AreFontAndColour font colour = IsFontName font × (colour ≤ MAX_COLOUR)

-- the same of the looks of this font, colour and offset, if they are looks
abbrev pub InsertsInLooks : SessionState → (pos : ℕ) → (bytes font : List ℕ) → (colour : ℕ) → (offset : ℤ) → (number sent : ℕ)
    → SessionState → Type 0
InsertsInLooks s pos bytes font colour offset number sent new =
    (AreFontAndColour font colour
    × InsertsBytes s pos bytes (record { font = font; colour = colour; offset = offset }) number sent new)
    ⊎ ((AreFontAndColour font colour → ⊥) × IsMisused NO_NUMBER s number new × (sent ≡ 0))

-- the looks that are selected of these, and the default ones elsewhere
abbrev pub asked_looks : Selection → (font : List ℕ) → (colour : ℕ) → (offset : ℤ) → Looks
asked_looks sel font colour offset = with_selected sel (record { font = font; colour = colour; offset = offset }) plain_looks

-- what is selected of these is looks
abbrev pub AreLooks : Selection → (font : List ℕ) → (colour : ℕ) → Type 0
AreLooks sel font colour = MatchBool sel.font (IsFontName font) ⊤ × MatchBool sel.colour (colour ≤ MAX_COLOUR) ⊤

-- the bits select what isn't nothing, and what they select of these is looks
abbrev pub AreLooksOf : (bits : ℕ) → (font : List ℕ) → (colour : ℕ) → Type 0
AreLooksOf bits font colour = (sel : Selection) × (bits_of sel ≡ bits) × (0 < bits) × AreLooks sel font colour

-- characters are given the looks of these that the bits select, if they select any, and these are looks
abbrev pub Dresses : SessionState → (beg end bits : ℕ) → (font : List ℕ) → (colour : ℕ) → (offset : ℤ) → (number sent : ℕ)
    → SessionState → Type 0
Dresses s beg end bits font colour offset number sent new =
    ((sel : Selection) × (bits_of sel ≡ bits) × (0 < bits) × AreLooks sel font colour
    × EditsSession s (looks_change beg end sel (asked_looks sel font colour offset)) number sent new)
    ⊎ ((AreLooksOf bits font colour → ⊥) × IsMisused NO_NUMBER s number new × (sent ≡ 0))
