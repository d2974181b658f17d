-- How a run ends: the theorem over whole scripts is `Ends`; what it speaks of stands before it, as
-- definitions must.
use Rattle.std.specs.Prelude.{◌≡◌, ◌≢◌, ℕ, ◌<◌, ◌≤◌, ◌⊎◌, List, [], ◌∷◌, ◌++◌, Bool, Option, Some, Result, Ok}
use Rattle.std.specs.Prelude.{Err}
use Rattle.std.specs.Io.KnownBytes.{Appends, Consumes, Keeps}
use Rattle.looks.specs.declared.refusal.Refusal.{Refusal}
use Rattle.looks.specs.declared.refusal.Refusal.TheVariants.{ReadFault, WriteFault, OutOfMemory}
use Rattle.script_sites.specs.Answers.{refused_line}
use Rattle.script_io.specs.Lines.{BreaksLine, IsRaw}
use Rattle.script_sites.specs.Trace.{AnswersNext, Run, Shelved, Trace, shelved}
use Rattle.script_sites.specs.Writing.{AppendsPrefix}
use Rattle.script_runs.specs.declared.running.TheConstants.{MAX_LINES}

-- the answers to a whole script, after which the shelf has this: to its lines, not too many, the last of which may lack its
-- newline
abbrev pub IsAnswered : (reported : Bool) → Run → List ℕ → List ℕ → (now : Shelved) → Type 0
IsAnswered reported start script answers now =
    ((n : ℕ) × (s : Run) × (n ≤ MAX_LINES) × Trace reported start n script answers s × (shelved s ≡ now))
    ⊎ ((n : ℕ) × (front before raw answer : List ℕ) × (s new : Run)
    × (n < MAX_LINES) × Trace reported start n front before s × IsRaw raw × (raw ≢ [])
    × AnswersNext reported s raw answer new × (script ≡ front ++ raw) × (answers ≡ before ++ answer) × (shelved new ≡ now))

-- Why a run breaks off after n lines, where this part of the script was taken after them: the reader failed
-- in a line, or the line is too long; or n is as many lines as there may be, and a line or the last line's
-- bytes stand after them.
abbrev pub Breaks : (failed : Bool) → ℕ → List ℕ → Type 0
Breaks failed n part =
    BreaksLine failed part
    ⊎ ((n ≡ MAX_LINES)
    × ((raw : List ℕ) × IsRaw raw × ((part ≡ raw ++ 10 ∷ []) ⊎ ((part ≡ raw) × (raw ≢ [])))))

-- the answers of a run that broke off, the reader having this left: to the lines that were ended before, not
-- too many, then the refusal
abbrev pub IsBrokenOff : (reported : Bool) → Run → List ℕ → (failed : Bool) → Option (List ℕ) → List ℕ → (now : Shelved) → Type 0
IsBrokenOff reported start script failed left answers now =
    (n : ℕ) × (front part before : List ℕ) × (s : Run)
    × (n ≤ MAX_LINES) × Trace reported start n front before s × Breaks failed n part
    × Consumes (Some script) left (front ++ part) × (answers ≡ before ++ refused_line ReadFault) × (shelved s ≡ now)

-- the answers that a run was giving where the writer failed, the reader having this left: those to the lines
-- that were taken, each ended by its newline; or to the whole script; or those of a run that broke off
abbrev pub AreDue : (reported : Bool) → Run → List ℕ → (failed : Bool) → Option (List ℕ) → List ℕ → (now : Shelved) → Type 0
AreDue reported start script failed left answers now =
    ((n : ℕ) × (front : List ℕ) × (s : Run)
    × (n ≤ MAX_LINES) × Trace reported start n front answers s × Consumes (Some script) left front × (shelved s ≡ now))
    ⊎ ((IsAnswered reported start script answers now × Consumes (Some script) left script)
    ⊎ IsBrokenOff reported start script failed left answers now)

-- How a run over the script, and over a shelf that reports its files or not, ends that began so; whether a read failed and what
-- the reader then has left; what was written; and what the shelf then has. Refused memory is told before the first byte is read. Where the writer fails,
-- a prefix of the answers that were due was written.
abbrev pub Ends : (reported : Bool) → Run → List ℕ → Result (Unit {0}) Refusal → (failed : Bool)
    → (left old new : Option (List ℕ)) → (now : Shelved) → Type 0
Ends reported start script (Ok done) failed left old new now =
    (answers : List ℕ) × Appends old new answers × IsAnswered reported start script answers now
Ends reported start script (Err ReadFault) failed left old new now =
    (answers : List ℕ) × Appends old new answers × IsBrokenOff reported start script failed left answers now
Ends reported start script (Err OutOfMemory) failed left old new now =
    Keeps (Some script) left × Keeps old new × (shelved start ≡ now)
Ends reported start script (Err WriteFault) failed left old new now =
    (answers : List ℕ) × AppendsPrefix old new answers × AreDue reported start script failed left answers now
Ends reported start script (Err why) failed left old new now = ⊥

-- what a run may end with, where it does not end well
abbrev pub IsEnd : Refusal → Type 0
IsEnd why = (why ≡ OutOfMemory) ⊎ ((why ≡ ReadFault) ⊎ (why ≡ WriteFault))
