-- What contracts see of a frame, and when it shows a text.
use Rattle.std.specs.Prelude.{◌≡◌, ℕ, suc, ◌+◌, ◌-◌, ◌<◌, ◌≤◌, ◌&&◌, ◌||◌, Bool, true, false, nat_lt, List, length, min, All, slice_index_or}
use Rattle.char_files.specs.declared.name.Anchor.{Anchor}
use Rattle.list_changes.specs.declared.change.ChangeKind.{ChangeKind}
use Rattle.list_changes.specs.declared.change.ChangeKind.TheVariants.{Insert, Delete, Replace}
use Rattle.list_changes.specs.declared.change.Change.{Change}
use Rattle.line_drawing.specs.Rows.{Row, rows_from}
use Rattle.texts.specs.Text.{IsAnchor}
use Rattle.texts.specs.TextState.{TextState, shown_of}
use Rattle.machine.specs.Windows.{bytes_shown, first_line, place_in}
use Rattle.viewers.specs.declared.seats.TheConstants.{MAX_WIDTH}
use Rattle.text_frames.specs.declared.TheConstants.{MAX_ROWS}
use Rattle.text_frames.specs.Reading.{counted, no_row}

-- A frame: the character whose line it begins with, its width, its rows from the top down, whether each row holds a line
-- that ends with a 0DH, how many characters were read when it last came up to date, and how many since it was made.
pub record FrameSeen : Type 0 where
  pub anchor : Anchor
  pub width : ℕ
  pub rows : List Row
  pub full : Bool
  pub reads : ℕ
  pub all_reads : ℕ

-- the first of these rows, and the last
abbrev pub first_row : List Row → Row
first_row rows = slice_index_or rows 0 no_row

abbrev pub last_row : List Row → Row
last_row rows = slice_index_or rows (length rows - 1) no_row

-- so many rows of a window, from the first below the menu on
abbrev pub rows_in : TextState → Anchor → (width n : ℕ) → List Row
rows_in t anchor width n = rows_from (bytes_shown t) width (first_line t anchor) n

-- The frame shows the text as it is drawn from nothing. It is full where the last row's line ends with a 0DH, since then
-- each row above it holds a line, too.
pub record IsDrawn (f : FrameSeen) (t : TextState) : Type 0 where
  pub anchored : IsAnchor t.operations f.anchor
  pub rows : f.rows ≡ rows_in t f.anchor f.width (length f.rows)
  pub full : f.full ≡ nat_lt (last_row f.rows).end (length (shown_of t))

-- How many characters are read for these rows of a text of so many, from this place: back to the begin of the place's line,
-- with the 0DH before it; then on to the end of the last row's line, with the 0DH there.
abbrev pub reads_of : (len place : ℕ) → List Row → ℕ
reads_of len place rows =
    (place - ((first_row rows).beg - 1)) + (min (suc (last_row rows).end) len - (first_row rows).beg)

-- how many are read to draw a frame of a text
abbrev pub drawing_reads : TextState → FrameSeen → ℕ
drawing_reads t f = reads_of (length (shown_of t)) (place_in t f.anchor) f.rows

-- for a frame that comes up to date a text is read as often as it takes to draw it once
pub record ReadsOnce (t : TextState) (old new : FrameSeen) : Type 0 where
  pub reads : new.reads ≡ counted (drawing_reads t new)
  pub all_reads : new.all_reads ≡ counted (old.all_reads + new.reads)

-- whether a change replaces
abbrev pub replaces : ChangeKind → Bool
replaces Insert = false
replaces Delete = false
replaces Replace = true

-- Whether a change leaves rows as they are, the last of which ends here: it replaces; or they are full, and it begins
-- after the 0DH of the last one.
abbrev pub leaves_rows : (full : Bool) → (last : ℕ) → Change → Bool
leaves_rows full last change = replaces change.kind || (full && nat_lt last change.beg)

-- whether it leaves a frame's rows as they are
abbrev pub is_quiet_for : FrameSeen → Change → Bool
is_quiet_for f change = leaves_rows f.full (last_row f.rows).end change

-- the rows of a frame: 1 to 99, each as wide as the frame, which has 1 to 200 columns
pub record AreRows (width : ℕ) (rows : List Row) : Type 0 where
  pub some : 0 < length rows
  pub few : length rows ≤ MAX_ROWS
  pub broad : 0 < width
  pub narrow : width ≤ MAX_WIDTH
  pub wide : All (λ r. length r.cells ≡ width) rows
