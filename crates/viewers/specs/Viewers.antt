-- Viewers with what each shows: a screen's tracks, and a content for each viewer.
use Rattle.std.specs.Prelude.{◌≡◌, ℕ, suc, ◌+◌, ◌≤◌, ◌^◌, ◌==◌, ◌&&◌, nat_lt, not, Bool, if◌then◌else◌}
use Rattle.std.specs.Prelude.{Option, Some, None, List, [], ◌∷◌, ◌++◌, length, filter, map, zip, Result, Ok, Err}
use Rattle.std.specs.List.{refill}
use Rattle.std.specs.Option.{ok_or}
use Rattle.looks.specs.declared.refusal.Refusal.{Refusal}
use Rattle.looks.specs.declared.refusal.Refusal.TheVariants.{NoRoom, NoViewer}
use Rattle.viewers.specs.declared.seats.Seat.{Seat}
use Rattle.viewers.specs.declared.screen.Track.{Track}
use Rattle.viewers.specs.Screen.{ScreenSeen, IsScreen, after_closing, after_moving, blank_tracks, seats_of, with_seats}
use Rattle.viewers.specs.Tracks.{can_open, opened, row_for}

-- what a contract sees of a screen: its tracks, the number of the next viewer, and what each viewer shows, in order of opening
pub record ViewersSeen (C : Type 0) : Type 0 where
  pub tracks : ScreenSeen
  pub next : ℕ
  pub contents : List (ℕ × C)

-- how often a number stands in a list
abbrev pub times : ℕ → List ℕ → ℕ
times v [] = 0
times v (w ∷ rest) = (if w == v then 1 else 0) + times v rest

-- the index of a number in a list, or the length where it isn't there
abbrev pub index_of : List ℕ → ℕ → ℕ
index_of [] v = 0
index_of (w ∷ rest) v = if w == v then 0 else suc (index_of rest v)

-- the numbers of a track's viewers
abbrev pub seated : List Seat → List ℕ
seated = map (λ s. s.number)

-- numbers that rise, from one on, and stay below another
abbrev pub AreRising : (from : ℕ) → List ℕ → (below : ℕ) → Type 0
AreRising from [] below = from ≤ below
AreRising from (v ∷ rest) below = (from ≤ v) × AreRising (suc v) rest below

-- The tracks are a screen's; viewers are numbered from 1 on, as they open; each of them has one seat in one of the tracks, and
-- the tracks have no others.
pub record AreNumbered (tracks : ScreenSeen) (next : ℕ) (numbers : List ℕ) : Type 0 where
  pub divided : IsScreen tracks
  pub rising : AreRising 1 numbers next
  pub last : next ≤ 2 ^ 32
  pub once : (v : ℕ) → times v (seated tracks.user) + times v (seated tracks.system) ≡ times v numbers

module _ {C : Type 0} where
  -- the viewers that show something
  abbrev pub numbers : List (ℕ × C) → List ℕ
  numbers = map (λ entry. entry.0)

  -- viewers are numbered as they open, and each has its seat and its content
  abbrev pub AreViewers : ViewersSeen C → Type 0
  AreViewers s = AreNumbered s.tracks s.next (numbers s.contents)

  -- a screen as it begins
  abbrev pub blank : (width height : ℕ) → ViewersSeen C
  blank width height = record { tracks = blank_tracks width height; next = 1; contents = [] }

  -- what a viewer shows
  abbrev pub content_of : List (ℕ × C) → ℕ → Option C
  content_of [] v = None
  content_of (entry ∷ rest) v = if entry.0 == v then Some entry.1 else content_of rest v

  -- the contents without a viewer's
  abbrev pub contents_without : List (ℕ × C) → ℕ → List (ℕ × C)
  contents_without contents v = filter (λ entry. not (entry.0 == v)) contents

  -- the contents, with another for a viewer
  abbrev pub with_entry : List (ℕ × C) → ℕ → C → List (ℕ × C)
  with_entry contents v c = map (λ entry. if entry.0 == v then (v, c) else entry) contents

  -- whether a viewer may open at a row, or where none is named: its number is below 2^32, and the viewer there has the rows
  abbrev pub has_room : ViewersSeen C → Track → Option ℕ → Bool
  has_room s track row =
      nat_lt s.next (2 ^ 32) && can_open (seats_of s.tracks track) (row_for (seats_of s.tracks track) row)

  -- a screen with one viewer more: the next number, its seat and its content
  abbrev pub with_viewer : ViewersSeen C → Track → Option ℕ → C → ViewersSeen C
  with_viewer s track row c = record {
    tracks = with_seats s.tracks track (opened s.tracks.height (seats_of s.tracks track) s.next (row_for (seats_of s.tracks track) row));
    next = s.next + 1;
    contents = s.contents ++ (s.next, c) ∷ [];
  }

  -- what opening a viewer answers: its number, or the content again
  abbrev pub open_result : ViewersSeen C → Track → Option ℕ → C → Result ℕ (C × Refusal)
  open_result s track row c = if has_room s track row then Ok s.next else Err (c, NoRoom)

  -- and the screen then
  abbrev pub after_opening : ViewersSeen C → Track → Option ℕ → C → ViewersSeen C
  after_opening s track row c = if has_room s track row then with_viewer s track row c else s

  -- what closing a viewer answers: what it showed
  abbrev pub close_result : ViewersSeen C → ℕ → Result C Refusal
  close_result s v = ok_or (content_of s.contents v) NoViewer

  -- and the screen then
  abbrev pub without_viewer : ViewersSeen C → ℕ → ViewersSeen C
  without_viewer s v = record s {
    tracks = after_closing s.tracks v;
    contents = contents_without s.contents v;
  }

  -- a screen after the top of a viewer moved to a row
  abbrev pub with_top : ViewersSeen C → (v row : ℕ) → ViewersSeen C
  with_top s v row = record s { tracks = after_moving s.tracks v row }

  -- a screen with another content for a viewer
  abbrev pub with_content : ViewersSeen C → ℕ → C → ViewersSeen C
  with_content s v c = record s { contents = with_entry s.contents v c }

  -- a screen with other contents, in the order of opening
  abbrev pub with_contents : ViewersSeen C → List C → ViewersSeen C
  with_contents s cs = record s {
    contents = zip (numbers s.contents) (refill (length s.contents) (map (λ entry. entry.1) s.contents) cs);
  }
