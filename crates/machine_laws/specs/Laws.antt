-- What runs can come to, and the laws of it: each text is what its operations define, and these tell what is
-- printed; an event has one reply, and none lacks a rule.
use Rattle.std.specs.Prelude.{◌≡◌, ◌≢◌, ◌⊎◌, ℕ, ◌+◌, ◌-◌, ◌^◌, ◌<◌, ◌≤◌, List, [], ◌++◌, length, All, Some, None, slice_get}
use Rattle.std.specs.Prelude.{IsFalse, IsTrue}
use Rattle.char_files.specs.Stretch.{Item}
use Rattle.char_files.specs.declared.name.Anchor.{Anchor}
use Rattle.char_files.specs.declared.name.Anchor.TheVariants.{At}
use Rattle.operations.specs.Operation.{Operation}
use Rattle.tree_order.specs.Laws.{AreSameSet}
use Rattle.tree_order.specs.Tree.{IsChar}
use Rattle.set_laws.specs.Fronts.{file_len}
use Rattle.set_laws.specs.Sets.{AreIdentified, HaveEqualFronts}
use Rattle.shelf.specs.Files.{Files}
use Rattle.text_file.specs.Files.{IsFileOf, IsNoFile}
use Rattle.text_file.specs.declared.TheConstants.{MAX_STORED}
use Rattle.texts.specs.Edit.{Edit, insertion, recalling, shown_with}
use Rattle.texts.specs.Text.{IsAnchor, IsText}
use Rattle.texts.specs.TextState.{TextState, noting, shown_items, shown_of}
use Rattle.kept_file.specs.KeptFiles.{IsKeptFileOf, IsNoKeptFile, most_kept}
use Rattle.texts.specs.declared.took.Took.TheVariants.{Taken}
use Rattle.machine.specs.SiteTexts.{SiteTexts, IsTextOf}
use Rattle.machine.specs.Commands.{IsTaskAt}
use Rattle.machine.specs.Events.{Event, Part, Reply, Task, ask, change, click, failed, forget, keep, load, refuses, reopen}
use Rattle.machine.specs.Events.{settles, stops, store, takes, untouched, went_well}
use Rattle.machine.specs.Machine.{Does, Replies, Short}
use Rattle.machine.specs.OnTexts.{EditsText, EditsTextShort, Prints, QueriesText}
use Rattle.machine.specs.State.{IsDeskAt, IsTextAt, State, new_state}
use Rattle.machine.specs.Tasks.{caret_after, lines_of_view, text_has_begun}
use Rattle.machine.specs.Windows.{Caret, Screened, Selected, Window, window_of}
use Rattle.machine.specs.declared.asked.Query.{Query}
use Rattle.machine.specs.declared.asked.Query.TheVariants.{Front, Pack, Since}
use Rattle.machine.specs.declared.asked.View.{View}
use Rattle.machine.specs.Printing.{waiting_line}
use Rattle.machine.specs.declared.TheConstants.{MAX_TEXT}

-- the states that a run can come to that began over these files, with screens of this size, where others may write files, too
pub data Reached (first count width height : ℕ) (files : Files) : State → Type 0 where
  begins : Reached first count width height files (new_state first count width height files)
  goes_on : {s : State} (e : Event) (part : Part) (r : Reply) (new : State)
      → Reached first count width height files s → Replies s e part r new
      → Reached first count width height files new
  others_write : {s : State} (now : Files) → Reached first count width height files s
      → Reached first count width height files (record s { files = now })

-- each text of each desk is what its operations define
abbrev pub AreTexts : State → Type 0
AreTexts s = (i text : ℕ) (t : TextState) → IsTextAt s i text t → IsText t

-- each text of each desk has told its changes
abbrev pub HaveTold : State → Type 0
HaveTold s = (i text : ℕ) (t : TextState) → IsTextAt s i text t → t.asked ≡ noting (length t.operations)

-- a query of what the set of operations determines, now or up to fronts: all but those of a text's own fronts, with which is
-- told how many operations wait, and of the order in which it took in
abbrev pub IsOfTheSet : Query → Type 0
IsOfTheSet Front = ⊥
IsOfTheSet (Since fronts) = ⊥
IsOfTheSet (Pack fronts) = ⊥
IsOfTheSet q = Unit {0}

-- a query of what is shown is answered the same of two texts, of one run or of two, by its lines or by a refusal
abbrev pub AnswerTheSame : TextState → TextState → Type 0
AnswerTheSame t u =
    (q : Query) (r r' : Reply) → IsOfTheSet q → QueriesText q r t → QueriesText q r' u → r ≡ r'

-- two texts, of one run or of two, that have taken in the same operations answer the same
abbrev pub OperationsDetermineWhatIsPrinted : Type 0
OperationsDetermineWhatIsPrinted =
    (t u : TextState) → IsText t → IsText u → AreSameSet t.operations u.operations → AnswerTheSame t u

-- two texts of equal fronts answer the same, if no identity is used twice
abbrev pub FrontsDetermineWhatIsPrinted : Type 0
FrontsDetermineWhatIsPrinted =
    (t u : TextState) → IsText t → IsText u → AreIdentified (t.operations ++ u.operations)
    → HaveEqualFronts t.operations u.operations → AnswerTheSame t u

-- the sites and the seqs are numbers that a message has places for
abbrev pub HaveMessageNumbers : List Operation → Type 0
HaveMessageNumbers ops = All (λ op. (op.site < 2 ^ 16) × (op.seq < 2 ^ 32)) ops

-- what a run of sites below 2^16 comes to is numbered so
abbrev pub WhatIsReachedIsNumbered : Type 0
WhatIsReachedIsNumbered =
    (first count width height : ℕ) (files : Files) (s : State) (i text : ℕ) (t : TextState) → first + count ≤ 2 ^ 16
    → Reached first count width height files s → IsTextAt s i text t → HaveMessageNumbers t.operations

-- the answer to `front` of a text: these lines of its fronts, and then how many operations wait
abbrev pub PrintsFronts : TextState → List ℕ → Type 0
PrintsFronts t lines = Prints Front t (lines ++ waiting_line (length t.waiting_room))

-- texts whose lines of fronts are the same, byte for byte, have equal fronts, however many operations wait
abbrev pub FrontLinesDetermineFronts : Type 0
FrontLinesDetermineFronts = (t u : TextState) (lines : List ℕ) → HaveMessageNumbers t.operations → HaveMessageNumbers u.operations
    → PrintsFronts t lines → PrintsFronts u lines → HaveEqualFronts t.operations u.operations

-- What two replies tell of refused memory is one: the same shape, with the same counts. The counts of an unpacking don't tell to
-- which of its operations memory was refused, so of it this is said of refusals alone.
abbrev pub HaveOneShape : Reply → Reply → Type 0
HaveOneShape (takes (Taken n m stopped)) (takes (Taken n' m' stopped')) = (n ≡ n') × (m ≡ m')
HaveOneShape (settles n m stopped) (settles n' m' stopped') = (n ≡ n') × (m ≡ m')
HaveOneShape (refuses why) (refuses why') = Unit {0}
HaveOneShape (stops messages done why) (stops messages' done' why') = done ≡ done'
HaveOneShape r r' = ⊥

-- a load, which puts in what a file has
abbrev pub IsLoad : Task → Type 0
IsLoad (load name) = Unit {0}
IsLoad t = ⊥

-- an event that may be one
abbrev pub MayLoad : Event → Type 0
MayLoad (ask i t) = IsLoad t
MayLoad (click i col row) = Unit {0}
MayLoad e = ⊥

-- An event, with this part of the files, has at most one reply and next state where memory is there; and at most one of each
-- shape, with its counts, where memory was refused, if each text had told its changes before an event that may be a load.
-- (Else a refused load would end in two ways: nothing is put in, and nothing changes; or its edit is refused, and the text tells
-- its changes.)
pub record HasOneReply (s : State) (e : Event) (part : Part) : Type 0 where
  pub whole : (r r' : Reply) (new new' : State) → Does s e part r new → Does s e part r' new' → (r ≡ r') × (new ≡ new')
  pub short : (MayLoad e → HaveTold s) → (r r' : Reply) (new new' : State) → Short s e part r new → Short s e part r' new'
      → HaveOneShape r r' → (r ≡ r') × (new ≡ new')

-- so it is with each event and each part, in each state whose texts are what their operations define
abbrev pub EachEventHasOneReply : Type 0
EachEventHasOneReply = (s : State) (e : Event) (part : Part) → AreTexts s → HasOneReply s e part

-- an event that asks for no file, whatever texts and screens there are; a click may ask for one
abbrev pub AsksForNoFile : Event → Type 0
AsksForNoFile (ask i (load name)) = ⊥
AsksForNoFile (ask i (store text name)) = ⊥
AsksForNoFile (ask i (keep form text name)) = ⊥
AsksForNoFile (ask i (reopen text name)) = ⊥
AsksForNoFile (click i col row) = ⊥
AsksForNoFile e = Unit {0}

-- where no file was asked for, an event is answered the same over any files, and leaves them as they are
abbrev pub TheSameOverAnyFiles : Type 0
TheSameOverAnyFiles = (s : State) (e : Event) (r : Reply) (new : State) (files : Files)
    → Replies s e untouched r new → Replies (record s { files = files }) e untouched r (record new { files = files })

-- an edit that puts characters in after the first pos shown
abbrev pub ComesIn : Edit → (pos : ℕ) → Type 0
ComesIn (insertion at items) pos = at ≡ pos
ComesIn (recalling at) pos = at ≡ pos
ComesIn e pos = ⊥

-- After an edit that puts characters in at the caret, whether memory was there or not, either no character came in, and the
-- caret stands where it stood; or these came in there, those of the site's file after all that it had, and the caret stands
-- after the last of them.
abbrev pub TheCaretStandsAfterTheLast : Type 0
TheCaretStandsAfterTheLast = (t new : TextState) (pos : ℕ) (e : Edit) (r : Reply) (was : Anchor) → ComesIn e pos
    → EditsText e r t new ⊎ EditsTextShort e r t new
    → ((shown_of new ≡ shown_of t) × (caret_after t new pos was ≡ was))
    ⊎ ((items : List Item) × (items ≢ []) × (shown_of new ≡ shown_with t pos items)
    × (caret_after t new pos was ≡ At (record { site = t.site; off = file_len t.operations t.site + (length items - 1) })))

-- the text whose number a task names is there
abbrev pub HasText : State → (i : ℕ) → Task → Type 0
HasText s i (store text name) = (t : TextState) × IsTextAt s i text t
HasText s i (change text e) = (t : TextState) × IsTextAt s i text t
HasText s i (forget text) = (t : TextState) × IsTextAt s i text t
HasText s i (keep form text name) = (t : TextState) × IsTextAt s i text t
HasText s i (reopen text name) = (t : TextState) × IsTextAt s i text t
HasText s i t = Unit {0}

-- the caret, if there is one, stands in a viewer that shows one of the desk's texts
abbrev pub CaretHasText : SiteTexts → Screened → Type 0
CaretHasText d w =
    (c : Caret) → w.caret ≡ Some c → (shown : Window × TextState) × (window_of d w c.viewer ≡ Some shown)

-- a file of this name is there, and it is a text's or no text's
abbrev pub IsFileThere : State → (name : List ℕ) → Type 0
IsFileThere s name =
    (file : List ℕ) × (s.files name ≡ Some file) × (IsNoFile file ⊎ ((items : List Item) × IsFileOf items file))

-- a file of this name is there, and it is a site's, in one of the forms, or no site's
abbrev pub IsKeptFileThere : State → (name : List ℕ) → Type 0
IsKeptFileThere s name =
    (file : List ℕ) × (s.files name ≡ Some file)
    × (IsNoKeptFile file ⊎ ((text site : ℕ) × (ops : List Operation) × IsKeptFileOf text site ops file))

-- What the files' part in a task may be: a load at a caret reads a file that is there, or fails; a store of a text that
-- isn't too long writes one, or fails, whatever is left, and so does a keeping of one that hasn't taken in too much; a
-- reopening of a text in which nothing was done yet reads one that is there, or fails; nothing else asks for a file.
abbrev pub MayHavePart : State → (i : ℕ) → Screened → Task → Part → Type 0
MayHavePart s i w (load name) untouched = w.caret ≡ None
MayHavePart s i w (load name) went_well = (w.caret ≢ None) × IsFileThere s name
MayHavePart s i w (load name) (failed left) = w.caret ≢ None
MayHavePart s i w (store text name) untouched =
    (t : TextState) × IsTextAt s i text t × (MAX_STORED < length (shown_items t))
MayHavePart s i w (store text name) part =
    (t : TextState) × IsTextAt s i text t × (length (shown_items t) ≤ MAX_STORED)
MayHavePart s i w (keep form text name) untouched =
    (t : TextState) × IsTextAt s i text t × (most_kept form < length t.operations)
MayHavePart s i w (keep form text name) part =
    (t : TextState) × IsTextAt s i text t × (length t.operations ≤ most_kept form)
MayHavePart s i w (reopen text name) untouched =
    (t : TextState) × IsTextAt s i text t × IsTrue (text_has_begun t)
MayHavePart s i w (reopen text name) went_well =
    ((t : TextState) × IsTextAt s i text t × IsFalse (text_has_begun t)) × IsKeptFileThere s name
MayHavePart s i w (reopen text name) (failed left) =
    (t : TextState) × IsTextAt s i text t × IsFalse (text_has_begun t)
MayHavePart s i w t part = part ≡ untouched

-- an event is answered where memory is there, with this part of the files
abbrev pub IsEventAnswered : State → Event → Part → Type 0
IsEventAnswered s e part = (r : Reply) × (new : State) × Does s e part r new

-- At a desk each task whose text is there has a part of the files that may be, and is answered with each such part; and so
-- is each click, by the task of its cell.
pub record AnswersAll (s : State) (i : ℕ) (d : SiteTexts) (w : Screened) : Type 0 where
  pub parts : (t : Task) → HasText s i t → (part : Part) × MayHavePart s i w t part
  pub tasks : (t : Task) (part : Part) → HasText s i t → MayHavePart s i w t part → IsEventAnswered s (ask i t) part
  pub clicks : (col row : ℕ) → (t : Task) × IsTaskAt d w col row t × HasText s i t
      × ((part : Part) → MayHavePart s i w t part → IsEventAnswered s (click i col row) part)

-- so it is at each desk whose caret has a text, in each state whose texts are what their operations define
abbrev pub EachTaskIsAnswered : Type 0
EachTaskIsAnswered = (s : State) (i : ℕ) (d : SiteTexts) (w : Screened) → AreTexts s → IsDeskAt s i d w
    → CaretHasText d w → AnswersAll s i d w

-- the viewer shows one of the desk's texts, whose operations are such
abbrev pub ShowsTextOf : SiteTexts → Screened → (v : ℕ) → (List Operation → Type 0) → Type 0
ShowsTextOf d w v Has = (shown : Window × TextState) × (window_of d w v ≡ Some shown) × Has shown.1.operations

-- All that is pointed at are characters: the caret, if there is one, stands in a viewer that shows a text, after a character of
-- that or at its beginning; what is selected begins and ends with characters of the text that its viewer shows; and each window
-- begins after a character of its text, or at the beginning.
pub record StandsByChars (d : SiteTexts) (w : Screened) : Type 0 where
  pub caret : (c : Caret) → w.caret ≡ Some c → ShowsTextOf d w c.viewer (λ ops. IsAnchor ops c.anchor)
  pub selection : (x : Selected) → w.selected ≡ Some x
      → ShowsTextOf d w x.viewer (λ ops. IsChar ops x.first × IsChar ops x.last)
  pub windows : (v : ℕ) (shown : Window × TextState) → window_of d w v ≡ Some shown
      → IsAnchor shown.1.operations shown.0.anchor

-- each desk has a text of each number; each text is what its operations define and has told its changes; and all that each
-- screen points at are its characters
pub record IsSoundState (s : State) : Type 0 where
  pub desks : (i : ℕ) (d : SiteTexts) → slice_get s.desks i ≡ Some d → length d.texts ≡ MAX_TEXT
  pub texts : AreTexts s
  pub told : HaveTold s
  pub screens : (i : ℕ) (d : SiteTexts) (w : Screened) → IsDeskAt s i d w → StandsByChars d w

-- so it is whatever a run does
abbrev pub WhatARunReachesIsSound : Type 0
WhatARunReachesIsSound = (first count width height : ℕ) (files : Files) (s : State)
    → Reached first count width height files s → IsSoundState s

-- Two desks have equally many texts, and those of one number, each what its operations define, have taken in the same
-- operations, in whatever order.
pub record HoldTheSame (d e : SiteTexts) : Type 0 where
  pub count : length d.texts ≡ length e.texts
  pub texts : (n : ℕ) (t u : TextState) → IsTextOf d n t → IsTextOf e n u
      → IsText t × IsText u × AreSameSet t.operations u.operations

-- over such desks one screen is printed alike: its caret and its selection, its viewers, and its cells
abbrev pub TextsDetermineTheScreen : Type 0
TextsDetermineTheScreen = (d e : SiteTexts) (w : Screened) → HoldTheSame d e
    → (v : View) → lines_of_view d w v ≡ lines_of_view e w v
