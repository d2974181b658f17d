-- How a frame reads a text: character by character, each counted.
use Rattle.std.specs.Prelude.{◌≡◌, ℕ, suc, ◌+◌, ◌-◌, ◌^◌, ◌==◌, List, [], ◌∷◌, length, map, drop, min, if◌then◌else◌}
use Rattle.std.specs.Prelude.{Option, Some, None}
use Rattle.char_files.specs.declared.character.Char.{Char}
use Rattle.line_drawing.specs.declared.drawing.TheConstants.{LINE_END}
use Rattle.line_drawing.specs.Rows.{Row, cells_of}
use Rattle.texts.specs.TextState.{TextState}

-- a count, which stays where it has come to 2^64 - 1
abbrev pub counted : ℕ → ℕ
counted n = min n (2 ^ 64 - 1)

-- a text that is read, what is left of a walk over it, and how many characters were read
pub record ReaderSeen : Type 0 where
  pub text : TextState
  pub left : List Char
  pub reads : ℕ

-- what is left of a walk; nothing where none has begun
abbrev pub left_of : Option (List Char) → List Char
left_of None = []
left_of (Some left) = left

-- what a walk over these characters gives next of their line, and what it then has left; nothing where the line ends
abbrev pub GivesNext : List Char → Option ℕ → List Char → Type 0
GivesNext [] next left = (next ≡ None) × (left ≡ [])
GivesNext (c ∷ chars) next left = (next ≡ (if c.byte == LINE_END then None else Some c.byte)) × (left ≡ chars)

-- the bytes before the first that ends a line, or all
abbrev pub line_before : List ℕ → List ℕ
line_before [] = []
line_before (b ∷ bytes) = if b == LINE_END then [] else b ∷ line_before bytes

-- what stands after that line and its end
abbrev pub after_line : {X : Type 0} → List ℕ → List X → List X
after_line line rest = drop (suc (length line)) rest

-- the row of the line that begins here, where these bytes are left
abbrev pub row_before : (width beg : ℕ) → List ℕ → Row
row_before width beg bytes = record {
  beg = beg;
  end = beg + length (line_before bytes);
  cells = cells_of width (line_before bytes);
}

-- a row of nothing, which stands for one that isn't there
abbrev pub no_row : Row
no_row = record { beg = 0; end = 0; cells = [] }
