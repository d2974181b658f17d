-- Rows of cells, one for each line.
use Rattle.std.specs.Prelude.{ℕ, suc, zero, ◌+◌, List, [], ◌∷◌, ◌++◌, ◌==◌, ◌&&◌, nat_le, map, take, min, if◌then◌else◌}
use Rattle.line_drawing.specs.Lines.{line_at, beg_of, end_of, ends_in}

-- what a byte shows as: 20H to 7EH as itself, a tab as a blank, another as '?'
abbrev pub sign_of : ℕ → ℕ
sign_of b = if b == 0x09 then 0x20 else (if nat_le 0x20 b && nat_le b 0x7E then b else 0x3F)

abbrev pub blanks : ℕ → List ℕ
blanks zero = []
blanks (suc n) = 0x20 ∷ blanks n

-- a line's cells: the signs of its bytes, cut and filled with blanks to the width
abbrev pub cells_of : ℕ → List ℕ → List ℕ
cells_of width line = take width (map sign_of line ++ blanks width)

-- a row: the positions between which its line stands, and its cells
pub record Row : Type 0 where
  pub beg : ℕ
  pub end : ℕ
  pub cells : List ℕ

-- the row of line k
abbrev pub row_of : List ℕ → ℕ → ℕ → Row
row_of bytes width k = record {
  beg = beg_of bytes k;
  end = end_of bytes k;
  cells = cells_of width (line_at bytes k);
}

-- the rows of n lines from line j on
abbrev pub rows_from : List ℕ → ℕ → ℕ → ℕ → List Row
rows_from bytes width j zero = []
rows_from bytes width j (suc n) = row_of bytes width j ∷ rows_from bytes width (suc j) n

-- what is drawn from position p on: n rows, the first of the line on which p stands
abbrev pub drawn : List ℕ → ℕ → ℕ → ℕ → List Row
drawn bytes p width n = rows_from bytes width (ends_in (take p bytes)) n

-- the position of the cell in this column of a row between two positions
abbrev pub place_of : ℕ → ℕ → ℕ → ℕ
place_of beg end col = min (beg + col) end
