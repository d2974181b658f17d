-- Tracks: seats from the top down, each a viewer's number and height. A row is held by the seat that covers it.
use Rattle.std.specs.Prelude.{◌≡◌, ℕ, zero, suc, ◌+◌, ◌-◌, ◌/◌, ◌≤◌, ◌⊎◌, nat_lt, nat_le, ◌==◌, ◌&&◌, Bool, true, if◌then◌else◌}
use Rattle.std.specs.Prelude.{Option, Some, None, List, [], ◌∷◌, take, slice_set, slice_index_or, min, max}
use Rattle.std.specs.List.{AllByRecursion, insert, remove}
use Rattle.viewers.specs.declared.seats.Seat.{Seat}

-- the rows of a whole list of seats
abbrev pub rows : List Seat → ℕ
rows [] = 0
rows (s ∷ rest) = s.height + rows rest

-- the first row of the seat at an index: the heights before it
abbrev pub top : List Seat → ℕ → ℕ
top seats i = rows (take i seats)

-- the index of the seat that has the row, or their count below the last one
abbrev pub holder : List Seat → ℕ → ℕ
holder [] row = 0
holder (s ∷ rest) row = if nat_lt row s.height then 0 else suc (holder rest (row - s.height))

-- the index of the seat of this number, or their count where none has it
abbrev pub seat_index : List Seat → ℕ → ℕ
seat_index [] v = 0
seat_index (s ∷ rest) v = if s.number == v then 0 else suc (seat_index rest v)

-- a seat of no viewer, for an index past the last
abbrev pub no_seat : Seat
no_seat = record { number = 0; height = 0 }

abbrev pub seat_at : List Seat → ℕ → Seat
seat_at seats i = slice_index_or seats i no_seat

abbrev pub height_at : List Seat → ℕ → ℕ
height_at seats i = (seat_at seats i).height

-- one past the last row of the seat at an index
abbrev pub bottom : List Seat → ℕ → ℕ
bottom seats i = top seats i + height_at seats i

-- the seats, with another height at an index
abbrev pub with_height : List Seat → ℕ → ℕ → List Seat
with_height seats i h = slice_set seats i (record { number = (seat_at seats i).number; height = h })

-- the first row of a viewer that opens at a row of the seat at i: each of the two keeps 2 rows
abbrev pub cut_row : List Seat → ℕ → ℕ → ℕ
cut_row seats i row = min (max row (top seats i + 2)) (bottom seats i - 2)

-- the index of the tallest seat, the topmost of equals
abbrev pub tallest : List Seat → ℕ
tallest [] = 0
tallest (s ∷ []) = 0
tallest (s ∷ t ∷ seats) =
    if nat_le (height_at (t ∷ seats) (tallest (t ∷ seats))) s.height then 0 else suc (tallest (t ∷ seats))

-- the row at which a viewer opens: the one that is named, or the middle of the tallest viewer
abbrev pub row_for : List Seat → Option ℕ → ℕ
row_for seats (Some row) = row
row_for seats None = top seats (tallest seats) + height_at seats (tallest seats) / 2

-- the seat at i keeps the rows before the cut, and viewer v takes those from there on
abbrev pub divided : List Seat → ℕ → ℕ → ℕ → List Seat
divided seats v i row =
    insert (with_height seats i (cut_row seats i row - top seats i)) (i + 1)
    (record { number = v; height = bottom seats i - cut_row seats i row })

-- a track of this height after viewer v opened at a row: the first one takes all rows
abbrev pub opened : ℕ → List Seat → ℕ → ℕ → List Seat
opened height [] v row = record { number = v; height = height } ∷ []
opened height (s ∷ rest) v row = divided (s ∷ rest) v (holder (s ∷ rest) row) row

-- whether a viewer may open at a row: the viewer there has 4 rows, or there is none
abbrev pub can_open : List Seat → ℕ → Bool
can_open [] row = true
can_open (s ∷ rest) row = nat_le 4 (height_at (s ∷ rest) (holder (s ∷ rest) row))

-- the seat that takes the rows of the one at an index as it closes: the one above, or, for the topmost, the one below
abbrev pub heir : ℕ → ℕ
heir zero = 1
heir (suc i) = i

-- a track after the viewer at an index closed
abbrev pub closed : List Seat → ℕ → List Seat
closed seats i = remove (with_height seats (heir i) (height_at seats (heir i) + height_at seats i)) i

-- whether the top of the seat at an index may move to a row: it isn't topmost, and each of the two keeps 2 rows
abbrev pub can_move : List Seat → ℕ → ℕ → Bool
can_move seats i row =
    nat_lt 0 i && nat_le (top seats (i - 1) + 2) row && nat_le (row + 2) (bottom seats i)

-- a track after the top of the seat at an index moved to a row
abbrev pub moved : List Seat → ℕ → ℕ → List Seat
moved seats i row =
    with_height (with_height seats (i - 1) (row - top seats (i - 1))) i (bottom seats i - row)

-- each viewer has 2 rows at least
abbrev pub AreTall : List Seat → Type 0
AreTall = AllByRecursion (λ s. 2 ≤ s.height)

-- the seats cover a track of this height, or there are none
pub record Covers (height : ℕ) (seats : List Seat) : Type 0 where
  pub tall : AreTall seats
  pub whole : (seats ≡ []) ⊎ (rows seats ≡ height)

-- the viewer that has the row; none in a blank track
abbrev pub viewer_in : List Seat → ℕ → Option ℕ
viewer_in [] row = None
viewer_in (s ∷ rest) row = Some (seat_at (s ∷ rest) (holder (s ∷ rest) row)).number
