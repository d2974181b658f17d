-- Lines that ask for no file, over a shelf that doesn't report its files.
use Rattle.std.proofs.Common.{◌≡◌, ℕ, true, false, Bool, List, [], refl, ap, subst}
use Rattle.std.specs.Prelude.{MatchBool}
use Rattle.machine.specs.Events.{Event, Part, untouched}
use Rattle.machine.specs.Machine.{Replies}
use Rattle.machine_laws.proofs.AnyFiles.{asks_for_none}
use Rattle.machine_laws.specs.Laws.{AsksForNoFile, TheSameOverAnyFiles}
use Rattle.script_io.specs.Lines.{without_return}
use Rattle.script_sites.specs.Trace.{Run, Shelved, Step, begins, goes_on, is_silent, over_shelf, shelved}
use Rattle.run_laws.specs.Laws.{WithoutFilesAllIsAnswered}

module _ (same : TheSameOverAnyFiles) (has : Shelved) where
  -- the run over such a shelf
  abbrev over : Run → Run
  over s = over_shelf s has

  step_over : (s : Run) (e : Event) (answer : List ℕ) (new : Run) → AsksForNoFile e → Step s e answer new
      → Step (over s) e answer (over new)
  step_over s e answer new none (part, r, is, replies, counted) =
      let free = asks_for_none s.state e part r new.state none replies in
      (untouched, r, is, same s.state e r new.state has.files (subst (λ (x : Part). Replies s.state e x r new.state) free replies), refl)

  line_over : (s : Run) (silent : Bool) (e : Event) (answer : List ℕ) (new : Run) → AsksForNoFile e
      → MatchBool silent ((answer ≡ []) × (new ≡ s)) (Step s e answer new)
      → MatchBool silent ((answer ≡ []) × (over new ≡ over s)) (Step (over s) e answer (over new))
  line_over s true e answer new none (is, stays) = (is, ap over stays)
  line_over s false e answer new none step = step_over s e answer new none step

pub all_is_told : TheSameOverAnyFiles → WithoutFilesAllIsAnswered
all_is_told same start n script answers s begins none = begins
all_is_told same start n script answers s
    (goes_on {n = before} {script = front} {answers = said} {s = old} raw answer new trace is_raw (now, meanwhile, answered)) (none, asks) =
    goes_on raw answer (over_shelf new (shelved start)) (all_is_told same start before front said old trace none) is_raw
    (shelved start, refl, line_over same (shelved start) (over_shelf old now) (is_silent (without_return raw)) _ answer new asks answered)
