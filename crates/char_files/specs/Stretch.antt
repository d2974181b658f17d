use Rattle.std.specs.Prelude.{◌≡◌, ◌≢◌, ℕ, ◌-◌, ◌≤◌, List, [], ◌∷◌, length, map, slice_get, IsSomeAnd}
use Rattle.std.specs.List.{flat_map}
use Rattle.looks.specs.declared.looks.Looks.{Looks}
use Rattle.char_files.specs.declared.TheConstants.{MAX_FILE}

-- neighbouring characters of equal looks
pub record Stretch : Type 0 where
  pub looks : Looks
  pub bytes : List ℕ

-- a character outside any text
abbrev pub Item : Type 0
Item = ℕ × Looks

-- a run's characters
abbrev pub items_of_run : Stretch → List Item
items_of_run r = map (λ b. (b, r.looks)) r.bytes

-- the characters of runs, one run after the other
abbrev pub items_of : List Stretch → List Item
items_of runs = flat_map items_of_run runs

-- runs that can't be joined: none is empty, and neighbours differ in looks
abbrev pub AreRuns : List Stretch → Type 0
AreRuns [] = Unit {0}
AreRuns (r ∷ []) = r.bytes ≢ []
AreRuns (r ∷ s ∷ runs) = (r.bytes ≢ []) × (r.looks ≢ s.looks) × AreRuns (s ∷ runs)

-- the last run has these looks
abbrev pub EndsIn : List Stretch → Looks → Type 0
EndsIn runs looks = IsSomeAnd (slice_get runs (length runs - 1)) (λ r. r.looks ≡ looks)

-- maximal runs, with how many characters they have, at most 2^24
pub record IsBuffer (runs : List Stretch) (len : ℕ) : Type 0 where
  pub maximal : AreRuns runs
  pub counted : len ≡ length (items_of runs)
  pub few : len ≤ MAX_FILE
