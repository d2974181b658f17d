-- What holds of tracks and of numbers, whatever opens, closes and moves.
use Rattle.std.specs.Prelude.{◌≡◌, ◌≢◌, ℕ, ◌-◌, ◌<◌, ◌≤◌, List, Option, Some, None, is_some, Ok, if◌then◌else◌}
use Rattle.viewers.specs.declared.screen.Track.{Track}
use Rattle.viewers.specs.declared.seats.Seat.{Seat}
use Rattle.viewers.specs.declared.seats.TheConstants.{MIN_HEIGHT}
use Rattle.viewers.specs.Screen.{IsScreen, ScreenSeen, after_close, after_closing, after_move, after_moving, after_open, area_of, has, seats_of, with_seats}
use Rattle.viewers.specs.Tracks.{Covers, heir, seat_index, seat_at, viewer_in}
use Rattle.viewers.specs.Viewers.{AreViewers, ViewersSeen, after_opening, content_of, open_result}

-- a covered track stays covered as a viewer opens, as one closes, and as a top is moved
abbrev pub StaysCovered : (height : ℕ) → List Seat → Type 0
StaysCovered height seats = MIN_HEIGHT ≤ height → Covers height seats → (v row : ℕ) → row < height
    → Covers height (after_open height seats v row) × Covers height (after_close seats v)
    × Covers height (after_move seats v row)

-- the track in which a viewer has its seat
abbrev pub seats_with : ScreenSeen → ℕ → List Seat
seats_with s v = if has s.user v then s.user else s.system

-- the viewer that takes the rows of another as that closes
abbrev pub heir_of : List Seat → ℕ → ℕ
heir_of seats v = (seat_at seats (heir (seat_index seats v))).number

-- the viewer above another
abbrev pub above : List Seat → ℕ → ℕ
above seats v = (seat_at seats (seat_index seats v - 1)).number

-- as a viewer opens, each but this one and the one that gives it rows keeps its area
abbrev pub OpeningKeepsOthers : ScreenSeen → Track → (v row : ℕ) → Type 0
OpeningKeepsOthers s track v row = IsScreen s → row < s.height → (w : ℕ) → w ≢ v
    → viewer_in (seats_of s track) row ≢ Some w
    → area_of (with_seats s track (after_open s.height (seats_of s track) v row)) w ≡ area_of s w

-- as a viewer closes, each but this one and the one that takes its rows does
abbrev pub ClosingKeepsOthers : ScreenSeen → ℕ → Type 0
ClosingKeepsOthers s v =
    (w : ℕ) → w ≢ v → w ≢ heir_of (seats_with s v) v → area_of (after_closing s v) w ≡ area_of s w

-- as the top of a viewer is moved, each but this one and the one above it does
abbrev pub MovingKeepsOthers : ScreenSeen → (v row : ℕ) → Type 0
MovingKeepsOthers s v row =
    (w : ℕ) → w ≢ v → w ≢ above (seats_with s v) v → area_of (after_moving s v row) w ≡ area_of s w

module _ {C : Type 0} where
  -- the viewers on the screen are those that show something
  abbrev pub ShowWhereTheyStand : ViewersSeen C → Type 0
  ShowWhereTheyStand s =
      AreViewers s → (v : ℕ) → is_some (area_of s.tracks v) ≡ is_some (content_of s.contents v)

  -- numbers from the next one on have no viewer
  abbrev pub AreUnused : ViewersSeen C → Type 0
  AreUnused s = AreViewers s → (v : ℕ) → s.next ≤ v → area_of s.tracks v ≡ None

  -- a viewer that opens gets the next number, and the next one is greater
  abbrev pub OpeningRises : ViewersSeen C → Track → Option ℕ → C → Type 0
  OpeningRises s track row c = (v : ℕ) → open_result s track row c ≡ Ok v
      → (v ≡ s.next) × (v < (after_opening s track row c).next)
