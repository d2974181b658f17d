-- A script line by line, and the answers to its lines.
use Rattle.std.specs.Prelude.{◌≡◌, ℕ, ◌+◌, List, [], ◌∷◌, ◌++◌, length, Bool, true, false, ◌==◌, MatchBool}
use Rattle.shelf.specs.Files.{Files}
use Rattle.machine.specs.Events.{Event, Part, Reply}
use Rattle.machine.specs.Machine.{Replies}
use Rattle.machine.specs.State.{State, new_state}
use Rattle.commands.specs.Steps.{Counted}
use Rattle.script_sites.specs.Answers.{reply_lines}
use Rattle.script_io.specs.Lines.{IsRaw, without_return}
use Rattle.script_events.specs.Script.{event_in}

-- what a run's shelf has: the files, and how many calls have failed
pub record Shelved : Type 0 where
  pub files : Files
  pub faults : ℕ

-- a run: the machine's state, and how many calls of its shelf have failed
pub record Run : Type 0 where
  pub state : State
  pub faults : ℕ

-- what the shelf of a run has
abbrev pub shelved : Run → Shelved
shelved s = record { files = s.state.files; faults = s.faults }

-- the run, over a shelf that has this
abbrev pub over_shelf : Run → Shelved → Run
over_shelf s now = record { state = record s.state { files = now.files }; faults = now.faults }

-- a run as it begins, over a shelf that has this
abbrev pub begun_run : (first count width height : ℕ) → Shelved → Run
begun_run first count width height has = record { state = new_state first count width height has.files; faults = has.faults }

-- One step of the machine: a reply to the event, printed, with some part of the files in it. Where they failed, the shelf
-- counted it, and else it counted nothing.
abbrev pub Step : Run → Event → List ℕ → Run → Type 0
Step s e answer new =
    (part : Part) × (r : Reply) × (answer ≡ reply_lines (length s.state.sent) r) × Replies s.state e part r new.state
    × Counted part s.faults new.faults

-- empty lines and those that begin with `#` are answered by nothing
abbrev pub is_silent : List ℕ → Bool
is_silent [] = true
is_silent (b ∷ line) = b == 35

-- any other line is answered by a step of the machine
abbrev pub Answers : Run → List ℕ → List ℕ → Run → Type 0
Answers s line answer new =
    MatchBool (is_silent line) ((answer ≡ []) × (new ≡ s))
    (Step s (event_in s.state.first (length s.state.desks) line) answer new)

-- What became of the files between two lines: nothing, where the shelf tells them; anything, where it doesn't, since others may
-- have written. No call failed.
abbrev pub Meanwhile : (reported : Bool) → (was now : Shelved) → Type 0
Meanwhile true was now = now ≡ was
Meanwhile false was now = now.faults ≡ was.faults

-- a line is answered so, over the files that there are by then
abbrev pub AnswersNext : (reported : Bool) → Run → List ℕ → List ℕ → Run → Type 0
AnswersNext reported s line answer new =
    (now : Shelved) × Meanwhile reported (shelved s) now × Answers (over_shelf s now) line answer new

-- the run began so, has taken n lines, which are this front of the script, and has given these answers
pub data Trace (reported : Bool) (start : Run) : ℕ → List ℕ → List ℕ → Run → Type 0 where
  begins : Trace reported start 0 [] [] start
  goes_on : {n : ℕ} {script answers : List ℕ} {s : Run} (raw answer : List ℕ) (new : Run)
      → Trace reported start n script answers s → IsRaw raw
      → AnswersNext reported s (without_return raw) answer new
      → Trace reported start (n + 1) (script ++ (raw ++ 10 ∷ [])) (answers ++ answer) new
