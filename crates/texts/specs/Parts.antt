-- Parts of one list of bytes, one directly after the other, by where each ends.
use Rattle.std.specs.Prelude.{ℕ, ◌≡◌, ◌≤◌, List, [], ◌∷◌, slice_index, slice_range}

-- the parts of these bytes: the first begins at `beg`, each other one where the one before it ends
abbrev pub parts : List ℕ → ℕ → List ℕ → List (List ℕ)
parts bytes beg [] = []
parts bytes beg (end ∷ ends) = slice_range bytes beg end ∷ parts bytes end ends

-- parts that begin at `beg` and end there follow one another, and the last one ends at `len`
abbrev pub AreEnds : ℕ → List ℕ → ℕ → Type 0
AreEnds beg [] len = beg ≡ len
AreEnds beg (end ∷ ends) len = (beg ≤ end) × AreEnds end ends len

-- where the part of this index begins, of parts that end there: the first one at 0
abbrev pub part_beg : List ℕ → ℕ → ℕ
part_beg ends index = slice_index (0 ∷ ends) index
