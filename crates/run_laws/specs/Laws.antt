-- Laws of whole scripts: what runs come to, and when they answer the same.
use Rattle.std.specs.Prelude.{◌≡◌, ℕ, Bool, true, false, ◌+◌, ◌≤◌, ◌^◌, List, ◌++◌, length}
use Rattle.shelf.specs.Files.{Files}
use Rattle.tree_order.specs.Laws.{AreSameSet}
use Rattle.set_laws.specs.Sets.{AreIdentified}
use Rattle.texts.specs.TextState.{TextState}
use Rattle.machine.specs.SiteTexts.{SiteTexts, IsTextOf}
use Rattle.machine.specs.Events.{Reply, ask, print, prints, query, untouched}
use Rattle.machine.specs.Machine.{Does, Replies}
use Rattle.machine.specs.State.{IsDeskAt, IsTextAt, State, new_state}
use Rattle.machine.specs.Windows.{Screened}
use Rattle.machine.specs.declared.asked.Query.{Query}
use Rattle.machine.specs.declared.asked.Query.TheVariants.{Front}
use Rattle.machine.specs.declared.asked.View.{View}
use Rattle.machine.specs.Printing.{waiting_line}
use Rattle.machine_laws.specs.Laws.{AsksForNoFile, IsOfTheSet, Reached}
use Rattle.script_io.specs.Lines.{without_return}
use Rattle.script_events.specs.Script.{event_in}
use Rattle.script_sites.specs.Trace.{Run, Trace, begins, goes_on}

-- how a run begins: the number of its first site, how many sites there are, the size of their screens, and the files
pub record Start : Type 0 where
  pub first : ℕ
  pub count : ℕ
  pub width : ℕ
  pub height : ℕ
  pub files : Files

-- a state after some lines of a script, in a run that began so, over a shelf that reports its files or over one that doesn't
pub record IsAfterLines (start : Start) (s : State) : Type 0 where
  pub reported : Bool
  pub lines : ℕ
  pub script : List ℕ
  pub answers : List ℕ
  -- how many calls of the shelf had failed, and have
  pub faults : ℕ
  pub faults_now : ℕ
  pub trace : Trace reported (record { state = new_state start.first start.count start.width start.height start.files; faults = faults }) lines
      script answers (record { state = s; faults = faults_now })

-- the state after any lines of a script is one that a run can come to
abbrev pub EachTraceIsReached : Type 0
EachTraceIsReached = (start : Start) (s : State) → IsAfterLines start s
    → Reached start.first start.count start.width start.height start.files s

-- a text at a desk after some lines of a script
pub record IsTraced (start : Start) (s : State) (i text : ℕ) (t : TextState) : Type 0 where
  pub after : IsAfterLines start s
  pub there : IsTextAt s i text t

-- a query of a text is answered by these lines
abbrev pub AnswersQuery : State → (i text : ℕ) → Query → List ℕ → Type 0
AnswersQuery s i text q lines =
    (new : State) × Replies s (query i text q) untouched (prints lines) new

-- where memory is there, a query of what is shown is answered the same of two texts, by its lines or by a refusal
abbrev pub AreAnsweredTheSame : (s s' : State) (i j text text' : ℕ) → Type 0
AreAnsweredTheSame s s' i j text text' = (q : Query) (r r' : Reply) (new new' : State) → IsOfTheSet q
    → Does s (query i text q) untouched r new → Does s' (query j text' q) untouched r' new' → r ≡ r'

-- wherever two texts have taken in the same operations, in one run or in two, `text`, `runs`, `where`, `names` and `past`
-- are answered the same
abbrev pub TheSameIsAnswered : Type 0
TheSameIsAnswered =
    (start start' : Start) (i j text text' : ℕ) (s s' : State) (t u : TextState)
    → IsTraced start s i text t → IsTraced start' s' j text' u
    → AreSameSet t.operations u.operations → AreAnsweredTheSame s s' i j text text'

-- `front` is answered of a text by these lines of its fronts, and then how many operations wait
abbrev pub AnswersFronts : State → (i text : ℕ) → TextState → List ℕ → Type 0
AnswersFronts s i text t lines = AnswersQuery s i text Front (lines ++ waiting_line (length t.waiting_room))

-- wherever `front` is answered by the same lines of fronts of two texts, in one run or in two, however many operations
-- wait, `text`, `runs`, `where`, `names` and `past` are answered the same, if the sites are numbers that a message has places for, and
-- no identity is used twice
abbrev pub TheSameFrontsAreAnswered : Type 0
TheSameFrontsAreAnswered =
    (start start' : Start) (i j text text' : ℕ) (s s' : State) (t u : TextState) (lines : List ℕ)
    → start.first + start.count ≤ 2 ^ 16 → start'.first + start'.count ≤ 2 ^ 16
    → IsTraced start s i text t → IsTraced start' s' j text' u
    → AreIdentified (t.operations ++ u.operations)
    → AnswersFronts s i text t lines → AnswersFronts s' j text' u lines
    → AreAnsweredTheSame s s' i j text text'

-- a desk and its screen after some lines of a script
pub record IsTracedDesk (start : Start) (s : State) (i : ℕ) (d : SiteTexts) (w : Screened) : Type 0 where
  pub after : IsAfterLines start s
  pub there : IsDeskAt s i d w

-- the texts of two desks have taken in the same operations, number for number, in whatever order
abbrev pub HaveTakenTheSame : SiteTexts → SiteTexts → Type 0
HaveTakenTheSame d e =
    (n : ℕ) (t u : TextState) → IsTextOf d n t → IsTextOf e n u → AreSameSet t.operations u.operations

-- a view of a desk is answered by these lines
abbrev pub AnswersView : State → (i : ℕ) → View → List ℕ → Type 0
AnswersView s i v lines = (new : State) × Replies s (ask i (print v)) untouched (prints lines) new

-- wherever the texts of two desks have taken in the same operations, in one run or in two, and their screens are the same,
-- tracks, windows, caret, selection and the next viewer's number, `views`, `marks` and `show` are answered the same
abbrev pub TheSameViewsAreAnswered : Type 0
TheSameViewsAreAnswered =
    (start start' : Start) (i j : ℕ) (s s' : State) (d e : SiteTexts) (w : Screened)
    → IsTracedDesk start s i d w → IsTracedDesk start' s' j e w → HaveTakenTheSame d e
    → (v : View) (a b : List ℕ) → AnswersView s i v a → AnswersView s' j v b → a ≡ b

-- no line of a run so far asked for a file
abbrev pub AskedForNoFile : {reported : Bool} {start : Run} {n : ℕ} {script answers : List ℕ} {s : Run}
    → Trace reported start n script answers s → Type 0
AskedForNoFile begins = Unit {0}
AskedForNoFile (goes_on {s = s} raw answer new trace is_raw answered) =
    AskedForNoFile trace × AsksForNoFile (event_in s.state.first (length s.state.desks) (without_return raw))

-- Over a shelf that doesn't report its files, lines that ask for none are answered as over one that does, and all else comes to the
-- same: so nothing that they print hangs on more than the script.
abbrev pub WithoutFilesAllIsAnswered : Type 0
WithoutFilesAllIsAnswered = (start : Run) (n : ℕ) (script answers : List ℕ) (s : Run) (trace : Trace false start n script answers s)
    → AskedForNoFile trace → Trace true start n script answers (record { state = record s.state { files = start.state.files }; faults = start.faults })
