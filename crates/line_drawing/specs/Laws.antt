-- The laws of lines and rows.
use Rattle.std.specs.Prelude.{◌≡◌, ◌≢◌, ℕ, suc, ◌+◌, ◌-◌, ◌<◌, ◌≤◌, List, [], ◌∷◌, ◌++◌, length, take, drop}
use Rattle.std.specs.Prelude.{slice_index, slice_set}
use Rattle.line_drawing.specs.declared.drawing.TheConstants.{LINE_END}
use Rattle.line_drawing.specs.Lines.{lines, line_at, ends_in, beg_of, end_of}
use Rattle.line_drawing.specs.Rows.{row_of, cells_of, sign_of, place_of}

abbrev pub AreJoined : List ℕ → List ℕ → Type 0
AreJoined a b = lines (a ++ LINE_END ∷ b) ≡ lines a ++ lines b

abbrev pub HasOneLineMore : List ℕ → Type 0
HasOneLineMore bytes = length (lines bytes) ≡ suc (ends_in bytes)

-- what stands after the end of a line doesn't change its row, or a row above it
abbrev pub IsOfItsOwnLine : List ℕ → List ℕ → ℕ → ℕ → Type 0
IsOfItsOwnLine a b width k =
    k < length (lines a) → row_of (a ++ LINE_END ∷ b) width k ≡ row_of a width k

abbrev pub BegsRise : List ℕ → ℕ → Type 0
BegsRise bytes k = suc k < length (lines bytes) → beg_of bytes k < beg_of bytes (suc k)

-- the cell of the byte is set, and no other; none past the width
abbrev pub IsSetCell : ℕ → List ℕ → ℕ → Type 0
IsSetCell width line byte =
    cells_of width (line ++ byte ∷ []) ≡ slice_set (cells_of width line) (length line) (sign_of byte)

-- a stretch without an end of a line, with one directly on each side unless the bytes begin or end there
pub record IsBetweenEnds (bytes : List ℕ) (beg end : ℕ) : Type 0 where
  pub order : beg ≤ end
  pub within : end ≤ length bytes
  pub before : 0 < beg → slice_index bytes (beg - 1) ≡ LINE_END
  pub after : end < length bytes → slice_index bytes end ≡ LINE_END
  pub each : (k : ℕ) → beg ≤ k → k < end → slice_index bytes k ≢ LINE_END

-- each line is what stands between two ends of lines
abbrev pub StandsBetween : List ℕ → ℕ → Type 0
StandsBetween bytes k = k < length (lines bytes) → IsBetweenEnds bytes (beg_of bytes k) (end_of bytes k)
    × (line_at bytes k ≡ take (end_of bytes k - beg_of bytes k) (drop (beg_of bytes k) bytes))

-- the position lies on this line, its end's position included
pub record IsOnLine (bytes : List ℕ) (pos k : ℕ) : Type 0 where
  pub there : k < length (lines bytes)
  pub from : beg_of bytes k ≤ pos
  pub to : pos ≤ end_of bytes k

-- each position lies on the line of as many ends as stand before it, and on no other
abbrev pub LiesOnOneLine : List ℕ → ℕ → Type 0
LiesOnOneLine bytes pos = pos ≤ length bytes
    → IsOnLine bytes pos (ends_in (take pos bytes)) × ((k : ℕ) → IsOnLine bytes pos k → k ≡ ends_in (take pos bytes))

-- the position of the cell in this column of line k: that of the byte that the cell shows; past the line's last byte
-- that of the line's end, which is the length on the last line and on the blank rows below it
pub record IsLocated (bytes : List ℕ) (width k col : ℕ) : Type 0 where
  pub at : col < length (line_at bytes k) → place_of (beg_of bytes k) (end_of bytes k) col ≡ beg_of bytes k + col
  pub end : length (line_at bytes k) ≤ col → place_of (beg_of bytes k) (end_of bytes k) col ≡ end_of bytes k
  pub on : col < length (line_at bytes k)
      → slice_index bytes (place_of (beg_of bytes k) (end_of bytes k) col) ≡ slice_index (line_at bytes k) col
  pub shown : col < length (line_at bytes k) → col < width
      → slice_index (cells_of width (line_at bytes k)) col
      ≡ sign_of (slice_index bytes (place_of (beg_of bytes k) (end_of bytes k) col))
  pub blank : length (line_at bytes k) ≤ col → col < width → slice_index (cells_of width (line_at bytes k)) col ≡ 0x20
  pub past : length (line_at bytes k) ≤ col → suc k < length (lines bytes)
      → slice_index bytes (place_of (beg_of bytes k) (end_of bytes k) col) ≡ LINE_END
  pub last : length (line_at bytes k) ≤ col → length (lines bytes) ≤ suc k
      → place_of (beg_of bytes k) (end_of bytes k) col ≡ length bytes
