-- The longest stretches of equal looks of some characters.
use Rattle.std.specs.Prelude.{◌≡◌, ℕ, Bool, ◌==◌, ◌&&◌, if◌then◌else◌, List, [], ◌∷◌, bytes_eq}
use Rattle.std.specs.Ordering.{int_eq}
use Rattle.looks.specs.declared.looks.Looks.{Looks}
use Rattle.char_files.specs.Stretch.{AreRuns, Item, Stretch, items_of}

-- whether looks are the same in font, colour and offset
abbrev pub same_looks : Looks → Looks → Bool
same_looks a b = bytes_eq a.font b.font && a.colour == b.colour && int_eq a.offset b.offset

-- a character as a run by itself
abbrev pub alone : Item → Stretch
alone c = record { looks = c.1; bytes = c.0 ∷ [] }

-- a run with one more character in front
abbrev pub grown : ℕ → Stretch → Stretch
grown b r = record { looks = r.looks; bytes = b ∷ r.bytes }

-- a character in front of runs: it joins the first one where that has its looks, else it is a run by itself
abbrev pub joined : Item → List Stretch → List Stretch
joined c [] = alone c ∷ []
joined c (r ∷ runs) = if same_looks c.1 r.looks then grown c.0 r ∷ runs else alone c ∷ r ∷ runs

-- the longest stretches of equal looks, in order
abbrev pub maximal_runs : List Item → List Stretch
maximal_runs [] = []
maximal_runs (c ∷ items) = joined c (maximal_runs items)

-- maximal runs can't be joined, and have the same characters
abbrev pub RunsAreMaximal : Type 0
RunsAreMaximal = (items : List Item) → AreRuns (maximal_runs items) × (items_of (maximal_runs items) ≡ items)

-- and they are the only such runs
abbrev pub NoOtherRuns : Type 0
NoOtherRuns = (runs : List Stretch) → AreRuns runs → maximal_runs (items_of runs) ≡ runs
