-- What is printed of viewers, as private calls have it.
use Rattle.std.specs.Prelude.{◌≡◌, ℕ, ◌-◌, ◌==◌, ◌<◌, if◌then◌else◌, List, [], Option, Some, None, codes, slice_index_or, true}
use Rattle.std.specs.Option.{option_map_or}
use Rattle.line_drawing.specs.Rows.{cells_of}
use Rattle.command_words.specs.Commands.{menu_of}
use Rattle.viewers.specs.Screen.{area_of, has, seats_of, user_width}
use Rattle.viewers.specs.Tracks.{seat_index, top, viewer_in}
use Rattle.viewers.specs.Viewers.{ViewersSeen}
use Rattle.viewers.specs.declared.screen.Track.{Track}
use Rattle.viewers.specs.declared.screen.Track.TheVariants.{User, System}
use Rattle.viewers.specs.declared.screen.Area.{Area}
use Rattle.viewers.specs.declared.seats.Seat.{Seat}
use Rattle.machine.specs.SiteTexts.{SiteTexts}
use Rattle.machine.specs.ScreenPrinting.{track_cells, viewer_line}
use Rattle.machine.specs.Windows.{Screened, window_of}
use Rattle.text_frames.specs.Reading.{no_row}
use Rattle.desk_windows.specs.Windows.{WindowSeen, screened, width_of}

-- the screen of these viewers; caret and selection don't matter
abbrev pub over : ViewersSeen WindowSeen → Screened
over viewers = screened (record { viewers = viewers; caret = None; selected = None })

-- a track's name
abbrev pub track_name : Track → List ℕ
track_name User = codes "user"
track_name System = codes "system"

-- the first column of a track
abbrev pub column_of : (width : ℕ) → Track → ℕ
column_of width User = 0
column_of width System = user_width width

-- a row of a viewer, the menu being row 0
abbrev pub viewer_row : (v : ℕ) → WindowSeen → (row : ℕ) → List ℕ
viewer_row v w row =
    if row == 0 then cells_of w.frame.width (menu_of v w.text) else (slice_index_or w.frame.rows (row - 1) no_row).cells

-- a row of a track
abbrev pub cells_in : SiteTexts → ViewersSeen WindowSeen → Track → (row : ℕ) → List ℕ
cells_in d viewers track row =
    track_cells d (over viewers) (seats_of viewers.tracks track) (width_of viewers.tracks.width track) row

-- the line of the viewer of a seat; none where it shows nothing
abbrev pub seat_lines : SiteTexts → ViewersSeen WindowSeen → (name : List ℕ) → (top : ℕ) → Seat → List ℕ
seat_lines d viewers name top seat =
    option_map_or (λ shown. viewer_line name seat top shown.0.text) (window_of d (over viewers) seat.number) []

-- a row of a track is this one of its viewer, counted from the menu
pub record HoldsRow (viewers : ViewersSeen WindowSeen) (track : Track) (row v line : ℕ) : Type 0 where
  pub viewer : viewer_in (seats_of viewers.tracks track) row ≡ Some v
  pub stands : has (seats_of viewers.tracks track) v ≡ true
  pub line_is : line ≡ row - top (seats_of viewers.tracks track) (seat_index (seats_of viewers.tracks track) v)
  pub area : Area
  pub is : area_of viewers.tracks v ≡ Some area
  pub in_area : line < area.height

-- the viewer that has a row of a track, and which of its rows that is; nothing in a blank track
abbrev pub IsRowHeld : ViewersSeen WindowSeen → Track → (row : ℕ) → Option (ℕ × ℕ) → Type 0
IsRowHeld viewers track row None = viewer_in (seats_of viewers.tracks track) row ≡ None
IsRowHeld viewers track row (Some held) = HoldsRow viewers track row held.0 held.1
