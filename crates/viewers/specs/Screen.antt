-- The tracks of a screen: two of one height, side by side.
use Rattle.std.specs.Prelude.{ℕ, ◌*◌, ◌/◌, ◌-◌, ◌≤◌, Bool, nat_lt, ◌&&◌, if◌then◌else◌}
use Rattle.std.specs.Prelude.{Option, Some, None, List, [], length, Result, Ok, Err}
use Rattle.looks.specs.declared.refusal.Refusal.{Refusal}
use Rattle.looks.specs.declared.refusal.Refusal.TheVariants.{NoRoom, NoViewer}
use Rattle.viewers.specs.declared.seats.Seat.{Seat}
use Rattle.viewers.specs.declared.seats.TheConstants.{MIN_WIDTH, MAX_WIDTH, MIN_HEIGHT, MAX_HEIGHT}
use Rattle.viewers.specs.declared.screen.Area.{Area}
use Rattle.viewers.specs.declared.screen.Track.{Track}
use Rattle.viewers.specs.declared.screen.Track.TheVariants.{User, System}
use Rattle.viewers.specs.Tracks.{Covers, can_move, can_open, closed, opened, height_at, moved, seat_index, top, viewer_in}

-- what a contract sees of both tracks
pub record ScreenSeen : Type 0 where
  pub width : ℕ
  pub height : ℕ
  pub user : List Seat
  pub system : List Seat

-- sizes in range, and each track covered or blank
pub record IsScreen (s : ScreenSeen) : Type 0 where
  pub wide : MIN_WIDTH ≤ s.width
  pub narrow : s.width ≤ MAX_WIDTH
  pub high : MIN_HEIGHT ≤ s.height
  pub low : s.height ≤ MAX_HEIGHT
  pub user_covered : Covers s.height s.user
  pub system_covered : Covers s.height s.system

-- both tracks blank
abbrev pub blank_tracks : (width height : ℕ) → ScreenSeen
blank_tracks width height = record { width = width; height = height; user = []; system = [] }

-- the columns of the user track, from the left
abbrev pub user_width : ℕ → ℕ
user_width width = width / 8 * 5

abbrev pub seats_of : ScreenSeen → Track → List Seat
seats_of s User = s.user
seats_of s System = s.system

-- the viewer at a column and a row; none in a blank track, and none past the width
abbrev pub viewer_at : ScreenSeen → ℕ → ℕ → Option ℕ
viewer_at s col row =
    if nat_lt col (user_width s.width) then viewer_in s.user row
    else if nat_lt col s.width then viewer_in s.system row
    else None

-- whether the viewer has a seat in the track
abbrev pub has : List Seat → ℕ → Bool
has seats v = nat_lt (seat_index seats v) (length seats)

-- the cells of the viewer of a track that has these columns
abbrev pub area_in : List Seat → ℕ → ℕ → ℕ → Area
area_in seats v col width =
    record { col = col; top = top seats (seat_index seats v); width = width; height = height_at seats (seat_index seats v) }

-- the cells of a viewer; none for a number that isn't on the screen
abbrev pub area_of : ScreenSeen → ℕ → Option Area
area_of s v =
    if has s.user v then Some (area_in s.user v 0 (user_width s.width))
    else if has s.system v then Some (area_in s.system v (user_width s.width) (s.width - user_width s.width))
    else None

-- the screen with these seats in a track
abbrev pub with_seats : ScreenSeen → Track → List Seat → ScreenSeen
with_seats s User seats = record s { user = seats }
with_seats s System seats = record s { system = seats }

-- what a move of the top of a viewer of a track to a row answers
abbrev pub move_answer : List Seat → ℕ → ℕ → Result Unit Refusal
move_answer seats v row =
    if has seats v then (if can_move seats (seat_index seats v) row then Ok tt else Err NoRoom) else Err NoViewer

-- and the track then
abbrev pub after_move : List Seat → ℕ → ℕ → List Seat
after_move seats v row =
    if has seats v && can_move seats (seat_index seats v) row then moved seats (seat_index seats v) row else seats

-- what opening a viewer at a row of a track answers
abbrev pub open_answer : List Seat → ℕ → Result Unit Refusal
open_answer seats row = if can_open seats row then Ok tt else Err NoRoom

-- and the track then
abbrev pub after_open : ℕ → List Seat → ℕ → ℕ → List Seat
after_open height seats v row = if can_open seats row then opened height seats v row else seats

-- what closing a viewer of a track answers
abbrev pub close_answer : List Seat → ℕ → Result Unit Refusal
close_answer seats v = if has seats v then Ok tt else Err NoViewer

-- and the track then
abbrev pub after_close : List Seat → ℕ → List Seat
after_close seats v = if has seats v then closed seats (seat_index seats v) else seats

-- what closing a viewer answers
abbrev pub closing : ScreenSeen → ℕ → Result Unit Refusal
closing s v = if has s.user v then Ok tt else close_answer s.system v

-- and the tracks then
abbrev pub after_closing : ScreenSeen → ℕ → ScreenSeen
after_closing s v =
    if has s.user v then record s { user = after_close s.user v } else record s { system = after_close s.system v }

-- what a move of the top of a viewer to a row answers
abbrev pub moving : ScreenSeen → (v row : ℕ) → Result Unit Refusal
moving s v row = if has s.user v then move_answer s.user v row else move_answer s.system v row

-- and the tracks then
abbrev pub after_moving : ScreenSeen → (v row : ℕ) → ScreenSeen
after_moving s v row =
    if has s.user v then record s { user = after_move s.user v row }
    else record s { system = after_move s.system v row }
