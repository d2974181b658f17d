-- A site's screen: what its viewers show, its caret, and what is selected. Neither cells nor positions are kept: both follow
-- from the texts.
use Rattle.std.specs.Prelude.{ℕ, ◌+◌, ◌-◌, ◌^◌, ◌==◌, ◌&&◌, ◌||◌, not, nat_le, nat_lt, Bool, false, if◌then◌else◌}
use Rattle.std.specs.Prelude.{List, [], ◌∷◌, ◌++◌, length, map, filter, take, min, max}
use Rattle.std.specs.Prelude.{Option, Some, None, option_map, Result, Ok, Err, slice_get}
use Rattle.std.specs.Option.{option_and_then, option_map_or}
use Rattle.looks.specs.declared.refusal.Refusal.{Refusal}
use Rattle.looks.specs.declared.refusal.Refusal.TheVariants.{NoRoom, NoViewer, OutOfRange}
use Rattle.char_files.specs.CharName.{CharName}
use Rattle.char_files.specs.declared.name.Anchor.{Anchor}
use Rattle.char_files.specs.declared.name.Anchor.TheVariants.{Root, At}
use Rattle.tree_order.specs.Shown.{is_visible, place}
use Rattle.texts.specs.Edit.{anchor_before}
use Rattle.texts.specs.TextState.{TextState, shown_of}
use Rattle.line_drawing.specs.Lines.{beg_of, ends_in}
use Rattle.line_drawing.specs.Rows.{Row, row_of, place_of}
use Rattle.viewers.specs.Screen.{ScreenSeen, area_of, has, seats_of, viewer_at, with_seats}
use Rattle.viewers.specs.Tracks.{can_move, can_open, closed, moved, opened, seat_index as seat_of, row_for}
use Rattle.viewers.specs.declared.screen.Area.{Area}
use Rattle.viewers.specs.declared.screen.Track.{Track}
use Rattle.viewers.specs.declared.screen.Track.TheVariants.{User, System}
use Rattle.viewers.specs.declared.seats.Seat.{Seat}
use Rattle.machine.specs.SiteTexts.{SiteTexts}
use Rattle.machine.specs.declared.asked.Arrangement.{Arrangement}
use Rattle.machine.specs.declared.asked.Arrangement.TheVariants.{Open, Close, Move, Scroll, Point, Select}

-- the bytes that a text shows
abbrev pub bytes_shown : TextState → List ℕ
bytes_shown t = map (λ c. c.byte) (shown_of t)

-- how many shown characters are the anchor or stand before it
abbrev pub place_in : TextState → Anchor → ℕ
place_in t anchor = place t.operations (map (λ c. c.name) t.order) anchor

-- how many shown characters stand before this one
abbrev pub place_before : TextState → CharName → ℕ
place_before t name = place_in t (At name) - (if is_visible t.operations name then 1 else 0)

-- what a viewer shows: this text, from the line on that has this character
pub record Window : Type 0 where
  pub text : ℕ
  pub anchor : Anchor

-- the caret stands in a viewer, after this character of its text
pub record Caret : Type 0 where
  pub viewer : ℕ
  pub anchor : Anchor

-- selected is what a viewer's text shows from the first of these characters to the last
pub record Selected : Type 0 where
  pub viewer : ℕ
  pub first : CharName
  pub last : CharName

-- A site's screen: its tracks, the number of the next viewer, what each viewer shows, in order of opening, its caret, and what
-- is selected.
pub record Screened : Type 0 where
  pub tracks : ScreenSeen
  pub next : ℕ
  pub windows : List (ℕ × Window)
  pub caret : Option Caret
  pub selected : Option Selected

-- as a site begins: both tracks are blank
abbrev pub blank_screen : (width height : ℕ) → Screened
blank_screen width height = record {
  tracks = record { width = width; height = height; user = []; system = [] };
  next = 1;
  windows = [];
  caret = None;
  selected = None;
}

-- what a viewer shows
abbrev pub shown_by : ℕ → List (ℕ × Window) → Option Window
shown_by v [] = None
shown_by v (entry ∷ rest) = if entry.0 == v then Some entry.1 else shown_by v rest

-- the text of this number
abbrev pub text_of : SiteTexts → ℕ → Option TextState
text_of d text = slice_get d.texts (text - 1)

-- what a viewer shows, with the text as it is
abbrev pub window_of : SiteTexts → Screened → ℕ → Option (Window × TextState)
window_of d w v =
    option_and_then (λ window. option_map (λ t. (window, t)) (text_of d window.text)) (shown_by v w.windows)

-- the line with which a window begins
abbrev pub first_line : TextState → Anchor → ℕ
first_line t anchor = ends_in (take (place_in t anchor) (bytes_shown t))

-- a row of a window, counted from the first below the menu
abbrev pub row_from_anchor : TextState → Anchor → (width row : ℕ) → Row
row_from_anchor t anchor width row = row_of (bytes_shown t) width (first_line t anchor + row)

-- the position that a cell of a window stands for, counted from its first column and the first row below the menu
abbrev pub position_in : TextState → Anchor → (width col row : ℕ) → ℕ
position_in t anchor width col row =
    let there : Row = row_from_anchor t anchor width row in place_of there.beg there.end col

-- a cell below the menu of a viewer: what the viewer shows, and the position that the cell stands for
pub record Pointed : Type 0 where
  pub viewer : ℕ
  pub window : Window
  pub text : TextState
  pub pos : ℕ

-- the same, for a cell of this area
abbrev pub pointed_in : (v : ℕ) → Area → (col row : ℕ) → Window × TextState → Pointed
pointed_in v area col row shown = record {
  viewer = v;
  window = shown.0;
  text = shown.1;
  pos = position_in shown.1 shown.0.anchor area.width (col - area.col) (row - area.top - 1);
}

-- the viewer that has a cell; none in a blank track and outside the screen
abbrev pub viewer_with : Screened → (col row : ℕ) → Option ℕ
viewer_with w col row = if nat_lt row w.tracks.height then viewer_at w.tracks col row else None

-- what a cell of the screen points at; nothing in a menu, in a blank track and outside the screen
abbrev pub pointed : SiteTexts → Screened → (col row : ℕ) → Option Pointed
pointed d w col row =
    option_and_then (λ v. option_and_then (λ area.
    if row == area.top then None else option_map (pointed_in v area col row) (window_of d w v))
    (area_of w.tracks v)) (viewer_with w col row)

-- where a selection begins and ends in its text, as it is shown
abbrev pub stretch_in : TextState → Selected → ℕ × ℕ
stretch_in t s = (place_before t s.first, place_in t (At s.last))

-- the selection's viewer, what that shows, and the stretch; nothing where nothing of it is shown
pub record Marked : Type 0 where
  pub viewer : ℕ
  pub window : Window
  pub text : TextState
  pub beg : ℕ
  pub end : ℕ

-- what a selection marks of what its viewer shows
abbrev pub marked_as : Selected → Window × TextState → Option Marked
marked_as s shown =
    if nat_lt (stretch_in shown.1 s).0 (stretch_in shown.1 s).1 then Some (record {
      viewer = s.viewer;
      window = shown.0;
      text = shown.1;
      beg = (stretch_in shown.1 s).0;
      end = (stretch_in shown.1 s).1;
    })
    else None

-- what is marked on a screen
abbrev pub marked : SiteTexts → Screened → Option Marked
marked d w = option_and_then (λ s. option_and_then (marked_as s) (window_of d w s.viewer)) w.selected

-- what it comes to: the screen then, and the number of a viewer that was opened
abbrev pub Arranged : Type 0
Arranged = Result (Screened × Option ℕ) Refusal

-- the viewer stands on the screen
abbrev pub is_open : Screened → ℕ → Bool
is_open w v = has w.tracks.user v || has w.tracks.system v

-- the track in which a viewer stands
abbrev pub track_of : Screened → ℕ → Track
track_of w v = if has w.tracks.user v then User else System

-- the screen with these seats in a track
abbrev pub with_track : Screened → Track → List Seat → Screened
with_track w track seats = record w { tracks = with_seats w.tracks track seats }

-- whether a row that is named lies below the screen
abbrev pub is_row_below : Screened → Option ℕ → Bool
is_row_below w (Some row) = nat_le w.tracks.height row
is_row_below w None = false

-- whether a viewer may open in these seats, under the next number
abbrev pub screen_has_room : Screened → List Seat → Option ℕ → Bool
screen_has_room w seats row = nat_lt w.next (2 ^ 32) && can_open seats (row_for seats row)

-- the screen with the next viewer in these seats of a track
abbrev pub with_next : Screened → Track → List Seat → (text : ℕ) → Option ℕ → Screened
with_next w track seats text row =
    record (with_track w track (opened w.tracks.height seats w.next (row_for seats row))) {
      next = w.next + 1;
      windows = w.windows ++ (w.next, record { text = text; anchor = Root }) ∷ [];
    }

-- an opening: refused for its row, else for want of room
abbrev pub opened_at : Screened → Track → (text : ℕ) → Option ℕ → Arranged
opened_at w track text row =
    if is_row_below w row then Err OutOfRange
    else (if screen_has_room w (seats_of w.tracks track) row
    then Ok (with_next w track (seats_of w.tracks track) text row, Some w.next) else Err NoRoom)

-- the seats in which a viewer stands
abbrev pub seats_of_viewer : Screened → ℕ → List Seat
seats_of_viewer w v = seats_of w.tracks (track_of w v)

-- a caret and a selection go with their viewer
abbrev pub closed_at : Screened → ℕ → Arranged
closed_at w v =
    if is_open w v then Ok (
      record (with_track w (track_of w v) (closed (seats_of_viewer w v) (seat_of (seats_of_viewer w v) v))) {
        windows = filter (λ entry. not (entry.0 == v)) w.windows;
        caret = option_and_then (λ c. if c.viewer == v then None else Some c) w.caret;
        selected = option_and_then (λ s. if s.viewer == v then None else Some s) w.selected;
      },
      None,
    )
    else Err NoViewer

-- a move of the top of the viewer at this index of a track: refused for want of room
abbrev pub moved_in : Screened → Track → List Seat → (i row : ℕ) → Arranged
moved_in w track seats i row =
    if can_move seats i row then Ok (with_track w track (moved seats i row), None) else Err NoRoom

-- a move of a viewer's top: refused for the viewer, else for the row, else for want of room
abbrev pub moved_to : Screened → (v row : ℕ) → Arranged
moved_to w v row =
    if is_open w v then
    (if nat_le w.tracks.height row then Err OutOfRange
    else moved_in w (track_of w v) (seats_of_viewer w v) (seat_of (seats_of_viewer w v) v) row)
    else Err NoViewer

-- the character after which a line begins; a line past the last one is the last one
abbrev pub line_anchor : TextState → ℕ → Anchor
line_anchor t line = anchor_before (shown_of t) (beg_of (bytes_shown t) (min line (ends_in (bytes_shown t))))

-- a scrolling: the viewer begins with this line then
abbrev pub scrolled_in : SiteTexts → Screened → (v line : ℕ) → Arranged
scrolled_in d w v line =
    option_map_or (λ shown. Ok (
      record w {
        windows = map (λ entry.
            if entry.0 == v then (v, record { text = shown.0.text; anchor = line_anchor shown.1 line }) else entry) w.windows;
      },
      None,
    ))
    (window_of d w v) (Err NoViewer)

-- a pointing: the caret stands after the character before the position, or at the beginning
abbrev pub pointed_to : SiteTexts → Screened → (col row : ℕ) → Arranged
pointed_to d w col row =
    option_map_or (λ at. Ok (
      record w
          { caret = Some (record { viewer = at.viewer; anchor = anchor_before (shown_of at.text) at.pos }) },
      None,
    ))
    (pointed d w col row) (Err NoViewer)

-- the names of the characters shown first and last in a stretch that isn't empty
abbrev pub selected_from : (v : ℕ) → TextState → (beg end : ℕ) → Option Selected
selected_from v t beg end =
    option_and_then (λ first. option_map (λ last. record { viewer = v; first = first.name; last = last.name })
    (slice_get (shown_of t) (end - 1))) (slice_get (shown_of t) beg)

-- from the smaller of two positions to the greater one, with the character there
abbrev pub selected_between : Screened → Pointed → ℕ → Arranged
selected_between w at pos =
    option_map_or (λ s. Ok (record w { selected = Some s }, None))
    (selected_from at.viewer at.text (min at.pos pos) (min (max at.pos pos + 1) (length (shown_of at.text))))
    (Err OutOfRange)

-- a selecting, by two cells below the menu of one viewer
abbrev pub selected_by : SiteTexts → Screened → (col row col' row' : ℕ) → Arranged
selected_by d w col row col' row' =
    option_map_or (λ at. option_map_or (λ other.
    if at.viewer == other.viewer then selected_between w at other.pos else Err NoViewer)
    (pointed d w col' row') (Err NoViewer)) (pointed d w col row) (Err NoViewer)

-- each has one outcome: the screen then, or why nothing was done
abbrev pub arranged : SiteTexts → Screened → Arrangement → Arranged
arranged d w (Open track text row) = opened_at w track text row
arranged d w (Close v) = closed_at w v
arranged d w (Move v row) = moved_to w v row
arranged d w (Scroll v line) = scrolled_in d w v line
arranged d w (Point cell) = pointed_to d w cell.col cell.row
arranged d w (Select beg end) = selected_by d w beg.col beg.row end.col end.row
