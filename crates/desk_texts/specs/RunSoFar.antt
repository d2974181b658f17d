-- How far the runs of a text are counted: what the private loop over its characters keeps.
use Rattle.std.specs.Prelude.{◌≡◌, ℕ, List, [], ◌∷◌, ◌++◌, length, ◌==◌, if◌then◌else◌}
use Rattle.looks.specs.declared.looks.Looks.{Looks}
use Rattle.char_files.specs.Stretch.{Item, Stretch}
use Rattle.machine.specs.Printing.{AreRunsOf, lines_of_runs, run_line}

-- the run of these bytes; none where there is none
abbrev pub runs_of_bytes : Looks → List ℕ → List Stretch
runs_of_bytes looks [] = []
runs_of_bytes looks (b ∷ bytes) = record { looks = looks; bytes = b ∷ bytes } ∷ []

-- the line of a run that ends; none where it has no character
abbrev pub ended_line : Looks → (len : ℕ) → List ℕ
ended_line looks len = if len == 0 then [] else run_line looks len

-- All runs of these characters but the last are printed, and the last has these looks and this length; where
-- there is no character yet its length is 0.
pub record HasRunsSoFar (items : List Item) (lines : List ℕ) (looks : Looks) (len : ℕ) : Type 0 where
  pub before : List Stretch
  pub bytes : List ℕ
  pub printed : lines ≡ lines_of_runs before
  pub counted : len ≡ length bytes
  pub begun : bytes ≡ [] → before ≡ []
  pub are_runs : AreRunsOf items (before ++ runs_of_bytes looks bytes)
