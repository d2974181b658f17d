-- What an event does to a text, and what a desk's texts answer.
use Rattle.std.specs.Prelude.{◌≡◌, ℕ, ◌-◌, ◌<◌, ◌⊎◌, List, ◌++◌, Result, IfOk}
use Rattle.std.specs.Prelude.{MatchBool, IsTrue, length}
use Rattle.std.specs.Prelude.{◌≤◌, ◌&&◌, Bool, true, if◌then◌else◌, nat_lt, slice_range}
use Rattle.looks.specs.declared.refusal.Refusal.{Refusal}
use Rattle.looks.specs.declared.refusal.Refusal.TheVariants.{FileSpent, OutOfMemory, OutOfRange}
use Rattle.char_files.specs.Stretch.{Stretch}
use Rattle.char_files.specs.declared.TheConstants.{MAX_FILE}
use Rattle.operations.specs.NameSet.{Range, names_of}
use Rattle.set_laws.specs.Fronts.{AreSites}
use Rattle.texts.specs.Draining.{Drains}
use Rattle.texts.specs.Edit.{Edit, insertion, is_in_text}
use Rattle.texts.specs.Edit.{is_range_in, plan}
use Rattle.texts.specs.Merge.{Merges, MergesShort}
use Rattle.texts.specs.Named.{EditsByNames, EditsByNamesShort, are_here}
use Rattle.texts.specs.Outcome.{Edits, EditsShort, Shows}
use Rattle.texts.specs.Past.{IsPastOf}
use Rattle.texts.specs.Take.{Takes, TakesShort}
use Rattle.texts.specs.TextState.{TextState, shown_items, shown_of}
use Rattle.texts.specs.declared.by_names.ByNames.{ByNames}
use Rattle.texts.specs.declared.edit_refusal.EditRefusal.{EditRefusal}
use Rattle.texts.specs.declared.merge_refusal.MergeRefusal.{MergeRefusal}
use Rattle.texts.specs.declared.took.Took.{Took}
use Rattle.text_chunks.specs.Unpacking.{Unpacks, UnpacksShort}
use Rattle.text_chunks.specs.declared.unpacked.UnpackRefusal.{UnpackRefusal}
use Rattle.text_chunks.specs.declared.unpacked.Unpacked.{Unpacked}
use Rattle.machine.specs.SiteTexts.{SiteTexts, InText, IsTextOf}
use Rattle.machine.specs.Events.{Reply, edit_reply, merge_reply, messages_of, prints, refuses, settles, take_reply, unpack_reply}
use Rattle.machine.specs.NamesShown.{names_lines}
use Rattle.machine.specs.Since.{pack_lines, since_lines}
use Rattle.machine.specs.WhereShown.{where_lines}
use Rattle.machine.specs.Printing.{AreRunsOf, text_lines, front_lines, run_lines}
use Rattle.machine.specs.declared.asked.Query.{Query}
use Rattle.machine.specs.declared.asked.Query.TheVariants.{Text, Front, Runs, WhereShown, Names, Pack, Past, Since}

-- An edit of a text, where memory is there: one whose positions lie outside the text is refused for that
-- alone, and any other does what its operations do, and where all was done shows what it is to show.
abbrev pub EditsText : Edit → Reply → TextState → TextState → Type 0
EditsText e r t new =
    MatchBool (is_in_text t e)
    ((result : Result ℕ EditRefusal) × (messages : List (List ℕ)) × Edits t (plan t e) result new messages
    × Shows t e result new × (r ≡ edit_reply result messages))
    ((r ≡ refuses OutOfRange) × (new ≡ t))

-- The same where memory was refused to one of its operations, which would stand else; those before it stand.
abbrev pub EditsTextShort : Edit → Reply → TextState → TextState → Type 0
EditsTextShort e r t new =
    IsTrue (is_in_text t e)
    × ((result : Result ℕ EditRefusal) × (messages : List (List ℕ)) × EditsShort t (plan t e) result new messages
    × Shows t e result new × (r ≡ edit_reply result messages))

-- An edit of a text by names, where memory is there: one of a name that isn't here is refused for that alone, and any other does
-- what it is to do.
abbrev pub EditsNames : ByNames → List Range → Reply → TextState → TextState → Type 0
EditsNames what names r t new =
    MatchBool (are_here t names)
    ((result : Result ℕ EditRefusal) × (messages : List (List ℕ)) × EditsByNames what names t result new messages
    × (r ≡ edit_reply result messages))
    ((r ≡ refuses OutOfRange) × (new ≡ t))

-- the same where memory was refused
abbrev pub EditsNamesShort : ByNames → List Range → Reply → TextState → TextState → Type 0
EditsNamesShort what names r t new =
    IsTrue (are_here t names)
    × ((result : Result ℕ EditRefusal) × (messages : List (List ℕ)) × EditsByNamesShort what names t result new messages
    × (r ≡ edit_reply result messages))

-- what a copy puts in, after the first pos characters shown: what t shows from beg to end
abbrev pub copied : TextState → (beg end pos : ℕ) → Edit
copied t beg end pos = insertion pos (slice_range (shown_items t) beg end)

-- whether the positions of a copy lie in the two texts
abbrev pub is_copy_in : TextState → TextState → (beg end pos : ℕ) → Bool
is_copy_in t u beg end pos = is_range_in t beg end && is_in_text u (copied t beg end pos)

-- A copy out of t, where memory is there: refused for its positions, or where it is longer than a stretch may be;
-- else an edit of the other text.
abbrev pub CopiesText : TextState → (beg end pos : ℕ) → Reply → TextState → TextState → Type 0
CopiesText t beg end pos r u new =
    MatchBool (is_copy_in t u beg end pos)
    (MatchBool (nat_lt MAX_FILE (end - beg)) ((r ≡ refuses FileSpent) × (new ≡ u))
    (EditsText (copied t beg end pos) r u new))
    ((r ≡ refuses OutOfRange) × (new ≡ u))

-- The same where memory was refused: to the edit; or to the copy, which is made before the edit is begun, where it isn't
-- empty.
abbrev pub CopiesTextShort : TextState → (beg end pos : ℕ) → Reply → TextState → TextState → Type 0
CopiesTextShort t beg end pos r u new =
    IsTrue (is_copy_in t u beg end pos) × (end - beg ≤ MAX_FILE)
    × (EditsTextShort (copied t beg end pos) r u new ⊎ ((beg < end) × (r ≡ refuses OutOfMemory) × (new ≡ u)))

-- a message for a text, where memory is there
abbrev pub TakesText : List ℕ → Reply → TextState → TextState → Type 0
TakesText message r t new =
    (result : Result Took Refusal) × Takes t message result new × (r ≡ take_reply result)

-- the same where memory was refused
abbrev pub TakesTextShort : List ℕ → Reply → TextState → TextState → Type 0
TakesTextShort message r t new =
    (result : Result Took Refusal) × TakesShort t message result new × (r ≡ take_reply result)

-- a chunk for a text, where memory is there
abbrev pub UnpacksText : List ℕ → Reply → TextState → TextState → Type 0
UnpacksText chunk r t new =
    (result : Result Unpacked UnpackRefusal) × Unpacks t chunk result new × (r ≡ unpack_reply result)

-- the same where memory was refused
abbrev pub UnpacksTextShort : List ℕ → Reply → TextState → TextState → Type 0
UnpacksTextShort chunk r t new =
    (result : Result Unpacked UnpackRefusal) × UnpacksShort t chunk result new × (r ≡ unpack_reply result)

-- a settling of a text, which was stopped where memory was refused
abbrev pub SettlesText : (stopped : Bool) → Reply → TextState → TextState → Type 0
SettlesText stopped r t new =
    (drained dropped : ℕ) × Drains t drained dropped stopped new × (r ≡ settles drained dropped stopped)

-- a merge of the text u into another, where memory is there
abbrev pub MergesText : TextState → Reply → TextState → TextState → Type 0
MergesText u r t new = (result : Result ℕ MergeRefusal) × Merges t u result new × (r ≡ merge_reply result)

-- the same where memory was refused
abbrev pub MergesTextShort : TextState → Reply → TextState → TextState → Type 0
MergesTextShort u r t new =
    (result : Result ℕ MergeRefusal) × MergesShort t u result new × (r ≡ merge_reply result)

-- a query prints these lines of a text
abbrev pub Prints : Query → TextState → List ℕ → Type 0
Prints Text t lines = lines ≡ text_lines t
Prints Front t lines =
    (sites : List ℕ) × AreSites t.operations sites × (lines ≡ front_lines t sites)
Prints Runs t lines =
    (runs : List Stretch) × AreRunsOf (shown_items t) runs × (lines ≡ run_lines runs)
Prints (WhereShown names) t lines = lines ≡ where_lines (shown_of t) (names_of names)
Prints (Names beg end) t lines = lines ≡ names_lines (shown_of t) beg end
Prints (Since fronts) t lines = lines ≡ since_lines fronts t.operations
Prints (Past fronts) t lines = (past : TextState) × IsPastOf t fronts past × (lines ≡ text_lines past)
Prints (Pack fronts) t lines = lines ≡ pack_lines fronts t

-- whether the positions of a query lie in the text
abbrev pub is_asked_in : TextState → Query → Bool
is_asked_in t (Names beg end) = is_range_in t beg end
is_asked_in t q = true

-- A query of a text, where memory is there: one whose positions lie outside the text is refused for that alone, and any other
-- prints its lines.
abbrev pub QueriesText : Query → Reply → TextState → Type 0
QueriesText q r t =
    MatchBool (is_asked_in t q) ((lines : List ℕ) × Prints q t lines × (r ≡ prints lines)) (r ≡ refuses OutOfRange)

-- why a query of a text is refused: for its positions, or else for memory
abbrev pub query_refusal : TextState → Query → Refusal
query_refusal t q = if is_asked_in t q then OutOfMemory else OutOfRange

-- A text is changed in either way, with memory or without, and answers so, with the count of its messages where all was done;
-- these were put after those that were sent.
abbrev pub Sending : (Reply → TextState → TextState → Type 0) → (Reply → TextState → TextState → Type 0)
    → TextState → Result ℕ EditRefusal → TextState → (before after : List (List ℕ)) → Type 0
Sending Goes Short t result new before after =
    (messages : List (List ℕ)) × IfOk result (λ count. count ≡ length messages)
    × (after ≡ before ++ messages_of (edit_reply result messages))
    × (Goes (edit_reply result messages) t new ⊎ Short (edit_reply result messages) t new)

-- so it is with an edit
abbrev pub EditsTextSending : TextState → Edit → Result ℕ EditRefusal → TextState
    → (before after : List (List ℕ)) → Type 0
EditsTextSending t e = Sending (EditsText e) (EditsTextShort e) t

-- so it is with an edit by names
abbrev pub EditsNamesSending : TextState → ByNames → List Range → Result ℕ EditRefusal → TextState
    → (before after : List (List ℕ)) → Type 0
EditsNamesSending t what names = Sending (EditsNames what names) (EditsNamesShort what names) t

-- so it is with a copy out of t
abbrev pub CopiesTextSending : TextState → (beg end pos : ℕ) → TextState → Result ℕ EditRefusal → TextState
    → (before after : List (List ℕ)) → Type 0
CopiesTextSending t beg end pos = Sending (CopiesText t beg end pos) (CopiesTextShort t beg end pos)

-- an edit of one of a desk's texts, in either way
abbrev pub EditsSite : SiteTexts → (text : ℕ) → Edit → Result ℕ EditRefusal → SiteTexts
    → (before after : List (List ℕ)) → Type 0
EditsSite d text e result new before after = InText (λ t t'. EditsTextSending t e result t' before after) d text new

-- an edit by names of one of them
abbrev pub EditsNamesSite : SiteTexts → (text : ℕ) → ByNames → List Range → Result ℕ EditRefusal → SiteTexts
    → (before after : List (List ℕ)) → Type 0
EditsNamesSite d text what names result new before after =
    InText (λ t t'. EditsNamesSending t what names result t' before after) d text new

-- a copy out of one of a desk's texts into another one, or the same
abbrev pub CopiesSite : SiteTexts → (text beg end other pos : ℕ) → Result ℕ EditRefusal → SiteTexts
    → (before after : List (List ℕ)) → Type 0
CopiesSite d text beg end other pos result new before after =
    (t : TextState) × IsTextOf d text t
    × InText (λ u u'. CopiesTextSending t beg end pos u result u' before after) d other new

-- a message for one of a desk's texts
abbrev pub TakesSite : SiteTexts → ℕ → List ℕ → Result Took Refusal → SiteTexts → Type 0
TakesSite d text message result new =
    InText (λ t t'. Takes t message result t' ⊎ TakesShort t message result t') d text new

-- a chunk for one of them
abbrev pub UnpacksSite : SiteTexts → ℕ → List ℕ → Result Unpacked UnpackRefusal → SiteTexts → Type 0
UnpacksSite d text chunk result new =
    InText (λ t t'. Unpacks t chunk result t' ⊎ UnpacksShort t chunk result t') d text new

-- a settling
abbrev pub SettlesSite : SiteTexts → ℕ → (drained dropped : ℕ) → (stopped : Bool) → SiteTexts → Type 0
SettlesSite d text drained dropped stopped new = InText (λ t t'. Drains t drained dropped stopped t') d text new

-- a merge of another desk's text of this number
abbrev pub MergesSite : SiteTexts → ℕ → SiteTexts → Result ℕ MergeRefusal → SiteTexts → Type 0
MergesSite d text other result new =
    (u : TextState) × IsTextOf other text u
    × InText (λ t t'. Merges t u result t' ⊎ MergesShort t u result t') d text new

-- a query: these are its lines
abbrev pub QueriesSite : SiteTexts → ℕ → Query → List ℕ → Type 0
QueriesSite d text q lines = (t : TextState) × IsTextOf d text t × IsTrue (is_asked_in t q) × Prints q t lines

-- a query is refused for this
abbrev pub RefusesQuery : SiteTexts → ℕ → Query → Refusal → Type 0
RefusesQuery d text q why = (t : TextState) × IsTextOf d text t × (why ≡ query_refusal t q)
