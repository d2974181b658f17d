-- What a desk's tasks do: to its texts, its screen and the files.
use Rattle.std.specs.Prelude.{◌≡◌, ◌≢◌, ℕ, ◌+◌, ◌-◌, ◌≤◌, ◌<◌, ◌⊎◌, ◌==◌, ◌&&◌, nat_lt}
use Rattle.std.specs.Prelude.{if◌then◌else◌, Bool, MatchBool, List, [], ◌++◌, length}
use Rattle.std.specs.Prelude.{Option, Some, None}
use Rattle.std.specs.Prelude.{IsFalse, IsOk, MatchResult}
use Rattle.std.specs.Option.{option_map_or}
use Rattle.looks.specs.declared.refusal.Refusal.TheVariants.{BadFile, Conflict, NoCaret, OutOfMemory}
use Rattle.looks.specs.declared.refusal.Refusal.TheVariants.{ReadFault, WriteFault, WrongText}
use Rattle.char_files.specs.Stretch.{Item}
use Rattle.char_files.specs.declared.name.Anchor.{Anchor}
use Rattle.operations.specs.Operation.{Operation}
use Rattle.shelf.specs.Files.{Files}
use Rattle.text_file.specs.Files.{IsFileOf, IsNoFile, formatted}
use Rattle.text_file.specs.declared.TheConstants.{MAX_STORED}
use Rattle.texts.specs.Edit.{Edit, anchor_before, insertion, recalling}
use Rattle.texts.specs.Taking.{HasTakenAll}
use Rattle.texts.specs.TextState.{TextState, empty_text, shown_items, shown_of, with_room}
use Rattle.kept_file.specs.KeptFiles.{IsKeptFileOf, IsNoKeptFile, kept_bytes, most_kept}
use Rattle.kept_file.specs.declared.form.KeptForm.{KeptForm}
use Rattle.machine.specs.SiteTexts.{SiteTexts}
use Rattle.machine.specs.Events.{Part, Reply, Task, arrange, change, done, failed, forget, forgot, found, keep, load, messages_of}
use Rattle.machine.specs.Events.{not_found, opens, print, prints, insert_at_caret, recall_at_caret, refuse, refuses, reopen, search, store}
use Rattle.machine.specs.Events.{untouched, went_well}
use Rattle.machine.specs.OnTexts.{EditsText, EditsTextShort}
use Rattle.machine.specs.ScreenPrinting.{marks_lines, screen_lines, views_lines}
use Rattle.machine.specs.State.{AtText, IsTextAt, Refuses, State, with_screen_at}
use Rattle.machine.specs.Windows.{Caret, Screened, Window, arranged, bytes_shown, place_in, window_of}
use Rattle.machine.specs.declared.asked.Arrangement.{Arrangement}
use Rattle.machine.specs.declared.asked.Arrangement.TheVariants.{Open}
use Rattle.machine.specs.declared.asked.View.{View}
use Rattle.machine.specs.declared.asked.View.TheVariants.{Marks, Show, Views}

-- how an edit of a text on a desk goes: where memory is there, or where it was refused
abbrev pub EditSteps : Type 1
EditSteps = State → (i text : ℕ) → Edit → Reply → State → Type 0

-- where memory is there
abbrev pub EditsAt : EditSteps
EditsAt s i text e r new = AtText (EditsText e r) s i text (messages_of r) new

-- where it was refused
abbrev pub EditsShortAt : EditSteps
EditsShortAt s i text e r new = AtText (EditsTextShort e r) s i text (messages_of r) new

-- the file of this name is so then, or there is none, and nothing else changes
abbrev pub FileBecomes : State → (name : List ℕ) → Option (List ℕ) → State → Type 0
FileBecomes s name file new =
    (files : Files) × (files name ≡ file) × ((other : List ℕ) → other ≢ name → files other ≡ s.files other)
    × (new ≡ record s { files = files })

-- where the caret stands after an edit at it: after the last character that came in, or where it stood if none did
abbrev pub caret_after : TextState → TextState → (was : ℕ) → Anchor → Anchor
caret_after t t' was old =
    if length (shown_of t') == length (shown_of t) then old
    else anchor_before (shown_of t') (was + (length (shown_of t') - length (shown_of t)))

-- an edit of the caret's text at the caret's place, after which the caret stands then
abbrev pub AtCaret : EditSteps → State → (i : ℕ) → Screened → Caret → Window → TextState → (ℕ → Edit)
    → Reply → State → Type 0
AtCaret Steps s i w c window t edit_at r new =
    (mid : State) × (t' : TextState)
    × Steps s i window.text (edit_at (place_in t c.anchor)) r mid × IsTextAt mid i window.text t'
    × (new ≡ with_screen_at mid i (record w
    { caret = Some (record c { anchor = caret_after t t' (place_in t c.anchor) c.anchor }) }))

-- at the caret, with what its viewer shows
abbrev pub WithCaret : SiteTexts → Screened → (Caret → Window → TextState → Type 0) → Type 0
WithCaret d w Goes =
    (c : Caret) × (shown : Window × TextState) × (w.caret ≡ Some c) × (window_of d w c.viewer ≡ Some shown)
    × Goes c shown.0 shown.1

-- the same, or refused where there is no caret, and then no file is asked for
abbrev pub IfCaret : State → SiteTexts → Screened → Part → Reply → State
    → (Caret → Window → TextState → Type 0) → Type 0
IfCaret s d w part r new Goes =
    ((w.caret ≡ None) × (part ≡ untouched) × Refuses s NoCaret r new) ⊎ WithCaret d w Goes

-- these bytes stand at this position
abbrev pub StandsAt : (bytes text : List ℕ) → ℕ → Type 0
StandsAt bytes text q = (before after : List ℕ) × (text ≡ before ++ bytes ++ after) × (length before ≡ q)

-- this is the first position from here on where the bytes stand
pub record IsFirstFrom (bytes text : List ℕ) (from q : ℕ) : Type 0 where
  pub after : from ≤ q
  pub there : StandsAt bytes text q
  pub first : (other : ℕ) → from ≤ other → other < q → StandsAt bytes text other → ⊥

-- a search from the caret: it goes after what is found, or stays
abbrev pub Searches : State → (i : ℕ) → Screened → Caret → TextState → (bytes : List ℕ) → Reply → State
    → Type 0
Searches s i w c t bytes r new =
    ((q : ℕ) × IsFirstFrom bytes (bytes_shown t) (place_in t c.anchor) q × (r ≡ found (q + length bytes))
    × (new ≡ with_screen_at s i (record w
    { caret = Some (record c { anchor = anchor_before (shown_of t) (q + length bytes) }) })))
    ⊎ (((q : ℕ) → place_in t c.anchor ≤ q → StandsAt bytes (bytes_shown t) q → ⊥) × (r ≡ not_found) × (new ≡ s))

-- a load at the caret: the file wasn't read; or it is no text's; or its characters are put in
abbrev pub Loads : State → (i : ℕ) → Screened → (name : List ℕ) → Part → Caret → Window → TextState
    → Reply → State → Type 0
Loads s i w name untouched c window t r new = ⊥
Loads s i w name (failed left) c window t r new = Refuses s ReadFault r new
Loads s i w name went_well c window t r new =
    (file : List ℕ) × (s.files name ≡ Some file)
    × ((IsNoFile file × Refuses s BadFile r new)
    ⊎ ((items : List Item) × IsFileOf items file × AtCaret EditsAt s i w c window t (λ p. insertion p items) r new))

-- The same where memory was refused: to the bytes of a file that is there, or to the characters that they tell, and nothing was
-- put in; or a text's file was read, and of its characters a part was put in, or none.
abbrev pub LoadsShort : State → (i : ℕ) → Screened → (name : List ℕ) → Part → Caret → Window → TextState
    → Reply → State → Type 0
LoadsShort s i w name untouched c window t r new = ⊥
LoadsShort s i w name (failed left) c window t r new = ⊥
LoadsShort s i w name went_well c window t r new =
    (file : List ℕ) × (s.files name ≡ Some file)
    × (Refuses s OutOfMemory r new
    ⊎ ((items : List Item) × IsFileOf items file × AtCaret EditsShortAt s i w c window t (λ p. insertion p items) r new))

-- a file is written: there is more than the most that one may tell; or it is so then; or it wasn't written
abbrev pub Writes : State → (much most : ℕ) → (name file : List ℕ) → Part → Reply → State → Type 0
Writes s much most name file untouched r new = (most < much) × Refuses s BadFile r new
Writes s much most name file went_well r new = (much ≤ most) × (r ≡ done) × FileBecomes s name (Some file) new
Writes s much most name file (failed left) r new =
    (much ≤ most) × (r ≡ refuses WriteFault) × FileBecomes s name left new

-- a store of what a text shows
abbrev pub Stores : State → TextState → (name : List ℕ) → Part → Reply → State → Type 0
Stores s t name part r new = Writes s (length (shown_items t)) MAX_STORED name (formatted (shown_items t)) part r new

-- a keeping, in this form, of all that a text has taken in
abbrev pub Keeps : State → KeptForm → TextState → (name : List ℕ) → Part → Reply → State → Type 0
Keeps s form t name part r new =
    Writes s (length t.operations) (most_kept form) name (kept_bytes form t.text t.site t.operations) part r new

-- whether a text has taken something in, or something waits for it
abbrev pub text_has_begun : TextState → Bool
text_has_begun t = nat_lt 0 (length t.operations + length t.waiting_room)

-- the text of this number begins anew, and has taken these operations in
abbrev pub BeginsWith : State → (i text : ℕ) → List Operation → Reply → State → Type 0
BeginsWith s i text ops r new =
    AtText (λ t u. HasTakenAll (empty_text t.text t.site) ops u) s i text [] new × (r ≡ done)

-- a text begins as a file tells: that is no site's file, or another text's or site's; or it is this one's
abbrev pub BeginsAs : State → (i text : ℕ) → TextState → (file : List ℕ) → Reply → State → Type 0
BeginsAs s i text t file r new =
    (IsNoKeptFile file × Refuses s BadFile r new)
    ⊎ ((of_text of_site : ℕ) × (ops : List Operation) × IsKeptFileOf of_text of_site ops file
    × MatchBool (of_text == t.text && of_site == t.site) (BeginsWith s i text ops r new) (Refuses s WrongText r new))

-- a reopening of a text in which nothing was done yet: the file wasn't read; or the text begins as it tells
abbrev pub Reopens : State → (i text : ℕ) → TextState → (name : List ℕ) → Part → Reply → State → Type 0
Reopens s i text t name untouched r new = ⊥
Reopens s i text t name (failed left) r new = Refuses s ReadFault r new
Reopens s i text t name went_well r new =
    (file : List ℕ) × (s.files name ≡ Some file) × BeginsAs s i text t file r new

-- the same where memory was refused, to the bytes of a file that is there, or to what they tell
abbrev pub ReopensShort : State → (name : List ℕ) → Part → Reply → State → Type 0
ReopensShort s name untouched r new = ⊥
ReopensShort s name (failed left) r new = ⊥
ReopensShort s name went_well r new =
    (file : List ℕ) × (s.files name ≡ Some file) × Refuses s OutOfMemory r new

-- an emptying of the room of a text
abbrev pub Forgets : State → (i text : ℕ) → Reply → State → Type 0
Forgets s i text r new =
    AtText (λ t u. (r ≡ forgot (length t.waiting_room)) × (u ≡ with_room t [])) s i text [] new

-- an arrangement of the screen
abbrev pub Arranges : State → (i : ℕ) → SiteTexts → Screened → Arrangement → Reply → State → Type 0
Arranges s i d w a r new = MatchResult (arranged d w a)
    (λ out. (r ≡ option_map_or (λ v. opens v) out.1 done) × (new ≡ with_screen_at s i out.0))
    (λ why. Refuses s why r new)

-- the lines of a view
abbrev pub lines_of_view : SiteTexts → Screened → View → List ℕ
lines_of_view d w Marks = marks_lines d w
lines_of_view d w Views = views_lines d w
lines_of_view d w Show = screen_lines d w

-- What a task does where memory is there, with the files' part in it. A load and a reopening alone read a file, and a store and
-- a keeping write one.
abbrev pub DoesTask : State → (i : ℕ) → SiteTexts → Screened → Task → Part → Reply → State → Type 0
DoesTask s i d w (refuse why) part r new = (part ≡ untouched) × Refuses s why r new
DoesTask s i d w (insert_at_caret items) part r new =
    IfCaret s d w part r new (λ c window t.
    (part ≡ untouched) × AtCaret EditsAt s i w c window t (λ p. insertion p items) r new)
DoesTask s i d w recall_at_caret part r new =
    IfCaret s d w part r new (λ c window t. (part ≡ untouched) × AtCaret EditsAt s i w c window t recalling r new)
DoesTask s i d w (load name) part r new =
    IfCaret s d w part r new (λ c window t. Loads s i w name part c window t r new)
DoesTask s i d w (store text name) part r new =
    (t : TextState) × IsTextAt s i text t × Stores s t name part r new
DoesTask s i d w (search bytes) part r new =
    IfCaret s d w part r new (λ c window t. (part ≡ untouched) × Searches s i w c t bytes r new)
DoesTask s i d w (change text e) part r new = (part ≡ untouched) × EditsAt s i text e r new
DoesTask s i d w (forget text) part r new = (part ≡ untouched) × Forgets s i text r new
DoesTask s i d w (arrange a) part r new = (part ≡ untouched) × Arranges s i d w a r new
DoesTask s i d w (print v) part r new =
    (part ≡ untouched) × (r ≡ prints (lines_of_view d w v)) × (new ≡ s)
DoesTask s i d w (keep form text name) part r new =
    (t : TextState) × IsTextAt s i text t × Keeps s form t name part r new
DoesTask s i d w (reopen text name) part r new =
    (t : TextState) × IsTextAt s i text t
    × MatchBool (text_has_begun t) ((part ≡ untouched) × Refuses s Conflict r new) (Reopens s i text t name part r new)

-- What a task does where memory was refused: an edit in the ways of one of texts; a load, a store, a keeping, a
-- reopening, an opening and a print besides with nothing done, after what is tested before the memory. The other tasks take
-- none.
abbrev pub ShortTask : State → (i : ℕ) → SiteTexts → Screened → Task → Part → Reply → State → Type 0
ShortTask s i d w (refuse why) part r new = ⊥
ShortTask s i d w (insert_at_caret items) part r new =
    (part ≡ untouched)
    × WithCaret d w (λ c window t. AtCaret EditsShortAt s i w c window t (λ p. insertion p items) r new)
ShortTask s i d w recall_at_caret part r new =
    (part ≡ untouched) × WithCaret d w (λ c window t. AtCaret EditsShortAt s i w c window t recalling r new)
ShortTask s i d w (load name) part r new =
    WithCaret d w (λ c window t. LoadsShort s i w name part c window t r new)
ShortTask s i d w (store text name) part r new =
    (part ≡ untouched) × ((t : TextState) × IsTextAt s i text t × (length (shown_items t) ≤ MAX_STORED))
    × Refuses s OutOfMemory r new
ShortTask s i d w (search bytes) part r new = ⊥
ShortTask s i d w (change text e) part r new = (part ≡ untouched) × EditsShortAt s i text e r new
ShortTask s i d w (forget text) part r new = ⊥
ShortTask s i d w (arrange (Open track text row)) part r new =
    (part ≡ untouched) × IsOk (arranged d w (Open track text row)) × Refuses s OutOfMemory r new
ShortTask s i d w (arrange a) part r new = ⊥
ShortTask s i d w (print v) part r new = (part ≡ untouched) × Refuses s OutOfMemory r new
ShortTask s i d w (keep form text name) part r new =
    (part ≡ untouched) × ((t : TextState) × IsTextAt s i text t × (length t.operations ≤ most_kept form))
    × Refuses s OutOfMemory r new
ShortTask s i d w (reopen text name) part r new =
    ((t : TextState) × IsTextAt s i text t × IsFalse (text_has_begun t)) × ReopensShort s name part r new
