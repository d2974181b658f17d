-- What is left of runs that are walked between two positions.
use Rattle.std.specs.Prelude.{◌≡◌, ℕ, zero, suc, ◌+◌, ◌-◌, ◌^◌, ◌<◌, ◌≤◌, min, true, List, [], ◌∷◌, All, Option, Some, None}
use Rattle.char_files.specs.declared.TheConstants.{MAX_FILE}
use Rattle.piece_list.specs.Pieces.{risen}
use Rattle.piece_list.specs.declared.run.Run.{Run}

-- a run without its first n characters
abbrev pub after_first : ℕ → Run → Run
after_first n r = record r { off = r.off + n; len = r.len - n; key = risen r.rising n r.key }

-- the runs with this one before them, if there is one
abbrev pub with_first_run : Option Run → List Run → List Run
with_first_run None runs = runs
with_first_run (Some r) runs = r ∷ runs

-- the first n characters of runs
abbrev pub first_chars : ℕ → List Run → List Run
first_chars n [] = []
first_chars zero (r ∷ runs) = []
first_chars (suc n) (r ∷ runs) = record r { len = min r.len (suc n) } ∷ first_chars (suc n - r.len) runs

-- there are no runs, or the first has more than n characters
abbrev pub HasFront : ℕ → List Run → Type 0
HasFront n [] = Unit {0}
HasFront n (r ∷ runs) = n < r.len

-- stamps that rise have 64 bits
abbrev pub HaveStamps : List Run → Type 0
HaveStamps runs = All (λ run. run.rising ≡ true → run.key.stamp + run.len ≤ 2 ^ 64) runs

-- none of the runs is empty, or past its site's file
abbrev pub AreWithin : List Run → Type 0
AreWithin runs = All (λ run. (0 < run.len) × (run.off + run.len ≤ MAX_FILE)) runs
