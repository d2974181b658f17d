-- The lines of a script, as they are taken from a reader.
use Rattle.std.specs.Prelude.{◌≡◌, ◌≢◌, ℕ, ◌+◌, ◌-◌, ◌≤◌, ◌⊎◌, List, [], ◌∷◌, ◌++◌, length, take, Bool}
use Rattle.std.specs.Prelude.{IsTrue, ◌==◌, if◌then◌else◌, slice_index, All, Option, Result, Ok, Err}
use Rattle.std.specs.Io.KnownBytes.{Consumes, IsAtEnd}
use Rattle.looks.specs.declared.refusal.Refusal.{Refusal}
use Rattle.looks.specs.declared.refusal.Refusal.TheVariants.{ReadFault}
use Rattle.script_io.specs.declared.lines.NextLine.{NextLine}
use Rattle.script_io.specs.declared.lines.NextLine.TheVariants.{Line, Last, End}
use Rattle.script_io.specs.declared.lines.TheConstants.{MAX_LINE}

-- a line as the script has it: no newline in it, and not too long
pub record IsRaw (raw : List ℕ) : Type 0 where
  pub one_line : All (λ b. b ≢ 10) raw
  pub short : length raw ≤ MAX_LINE

-- a line without the carriage return before its newline
abbrev pub without_return : List ℕ → List ℕ
without_return raw = if slice_index raw (length raw - 1) == 13 then take (length raw - 1) raw else raw

-- what was taken of a line that is too long: one byte more than a line has, and no newline among them
pub record IsTooLong (part : List ℕ) : Type 0 where
  pub one_line : All (λ b. b ≢ 10) part
  pub long : length part ≡ MAX_LINE + 1

-- why taking a line broke off after this part of it: the reader failed, or the line is too long
abbrev pub BreaksLine : (failed : Bool) → List ℕ → Type 0
BreaksLine failed part = (IsTrue failed × IsRaw part) ⊎ IsTooLong part

-- What taking a line from the script answers: a line that a newline ends; the last line, without one; the
-- end; or a fault, in a line that has not ended, where the reader has failed or the line is too long.
abbrev pub TakesLine : (failed : Bool) → Option (List ℕ) → Option (List ℕ) → Result NextLine Refusal → List ℕ
    → Type 0
TakesLine failed old new (Ok Line) line =
    (raw : List ℕ) × IsRaw raw × Consumes old new (raw ++ 10 ∷ []) × (line ≡ without_return raw)
TakesLine failed old new (Ok Last) line = IsRaw line × (line ≢ []) × Consumes old new line × IsAtEnd new
TakesLine failed old new (Ok End) line = Consumes old new [] × IsAtEnd new
TakesLine failed old new (Err why) line =
    (why ≡ ReadFault) × ((part : List ℕ) × BreaksLine failed part × Consumes old new part)
