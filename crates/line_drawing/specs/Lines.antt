-- The lines of a list of bytes.
use Rattle.std.specs.Prelude.{ℕ, suc, ◌+◌, List, [], ◌∷◌, ◌==◌, length, take, min, slice_index_or, if◌then◌else◌}
use Rattle.line_drawing.specs.declared.drawing.TheConstants.{LINE_END}

-- the byte before the first line
abbrev pub onto_first : ℕ → List (List ℕ) → List (List ℕ)
onto_first b [] = (b ∷ []) ∷ []
onto_first b (line ∷ lines) = (b ∷ line) ∷ lines

-- the stretches between the ends of lines; never none
abbrev pub lines : List ℕ → List (List ℕ)
lines [] = [] ∷ []
lines (b ∷ bytes) = if b == LINE_END then [] ∷ lines bytes else onto_first b (lines bytes)

-- how many lines these bytes end
abbrev pub ends_in : List ℕ → ℕ
ends_in [] = 0
ends_in (b ∷ bytes) = if b == LINE_END then suc (ends_in bytes) else ends_in bytes

-- line k, counted from 0; an empty one past the last
abbrev pub line_at : List ℕ → ℕ → List ℕ
line_at bytes k = slice_index_or (lines bytes) k []

-- what these lines take, each with its end
abbrev pub extent : List (List ℕ) → ℕ
extent [] = 0
extent (line ∷ lines) = suc (length line) + extent lines

-- where line k begins: after those before it; past the last line the length
abbrev pub beg_of : List ℕ → ℕ → ℕ
beg_of bytes k = min (extent (take k (lines bytes))) (length bytes)

-- where line k ends: at its end's position, or the length
abbrev pub end_of : List ℕ → ℕ → ℕ
end_of bytes k = beg_of bytes k + length (line_at bytes k)
