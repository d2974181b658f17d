-- What is printed of viewers and of their rows.
use Rattle.std.proofs.Common.{◌≡◌, ℕ, zero, suc, ◌+◌, ◌-◌, ◌<◌, ◌≤◌, ◌++◌, List, [], ◌∷◌, length, take, drop, Bool, true, false, cond, nat_lt, eqb, refl, sym, ap, ◌∙◌, subst, arith, Option, Some, None, append_assoc, append-nil, map-id}
use Rattle.std.specs.Prelude.{slice_index_or, ◌==◌}
use Rattle.std.specs.Option.{option_map_or}
use Rattle.std.specs.List.{flat_map, range_with_len}
use Rattle.std.proofs.lemmas.List.{drop_more}
use Rattle.std.proofs.lemmas.List.FromFn.{map-range_with_len_more}
use Rattle.std.proofs.lemmas.Grind.{flat_map-append}
use Rattle.std.proofs.lemmas.Option.{same_Some}
use Rattle.std.proofs.lemmas.Bool.{eqb-false, lt-ltb, ltb-true}
use Rattle.line_drawing.specs.Rows.{Row, blanks, cells_of}
use Rattle.command_words.specs.Commands.{menu_of}
use Rattle.viewers.specs.declared.screen.Area.{Area}
use Rattle.viewers.specs.declared.screen.Track.{Track}
use Rattle.viewers.specs.declared.screen.Track.TheVariants.{User, System}
use Rattle.viewers.specs.declared.seats.Seat.{Seat}
use Rattle.viewers.specs.Screen.{IsScreen, ScreenSeen, area_in, area_of, has, seats_of, user_width, viewer_at}
use Rattle.viewers.specs.Tracks.{Covers, bottom, height_at, seat_index, rows, top, viewer_in}
use Rattle.viewers.specs.Viewers.{AreViewers, ViewersSeen, content_of, numbers, seated, times}
use Rattle.viewers.proofs.Covering.{few_rows}
use Rattle.viewers.proofs.Rows.{next_bound, next_top}
use Rattle.viewers.proofs.Seating.{has_times}
use Rattle.texts.specs.TextState.{TextState}
use Rattle.machine.specs.SiteTexts.{SiteTexts}
use Rattle.machine.specs.ScreenPrinting.{track_lines, viewer_cells, viewer_line}
use Rattle.machine.specs.Windows.{Window, row_from_anchor, window_of as shown_window}
use Rattle.text_frames.specs.Reading.{no_row}
use Rattle.text_frames.proofs.Drawn.{row_told}
use Rattle.desk_windows.specs.Printing.{HoldsRow, cells_in, column_of, over, seat_lines, viewer_row}
use Rattle.desk_windows.specs.Windows.{ShowTexts, ShowsText, WindowSeen, WindowsSeen, seen_window, width_of}
use Rattle.desk_windows.proofs.Cells.{row_in_seat, times_once}
use Rattle.desk_windows.proofs.Scrolling.{shown_nothing, shown_text}

-- the viewers alone
abbrev alone : ViewersSeen WindowSeen → WindowsSeen
alone s = record { viewers = s; caret = None; selected = None }

-- what a viewer shows has a line
pub seat_shown : (d : SiteTexts) (s : ViewersSeen WindowSeen) (name : List ℕ) (from : ℕ) (seat : Seat) (x : WindowSeen)
    → ShowTexts d s → content_of s.contents seat.number ≡ Some x
    → seat_lines d s name from seat ≡ viewer_line name seat from x.text
seat_shown d s name from seat x shows is =
    let old : ShowsText d s.tracks seat.number x = shows.texts seat.number x is in
    ap (λ (o : Option (Window × TextState)). option_map_or (λ shown. viewer_line name seat from shown.0.text) o [])
    (shown_text d (alone s) seat.number 0 x x old.text is old.at)

-- where nothing is shown there is none
pub seat_blank : (d : SiteTexts) (s : ViewersSeen WindowSeen) (name : List ℕ) (from : ℕ) (seat : Seat)
    → content_of s.contents seat.number ≡ None → seat_lines d s name from seat ≡ []
seat_blank d s name from seat none =
    ap (λ (o : Option (Window × TextState)). option_map_or (λ shown. viewer_line name seat from shown.0.text) o [])
    (shown_nothing d (alone s) seat.number 0 none)

-- the lines of the seats that are left begin with that of the next one
pub next_lines : (d : SiteTexts) (s : ViewersSeen WindowSeen) (name : List ℕ) (from i : ℕ) (seats : List Seat) (none : Seat)
    → i < length seats
    → track_lines d (over s) name from (drop i seats)
    ≡ seat_lines d s name from (slice_index_or seats i none)
    ++ track_lines d (over s) name (from + (slice_index_or seats i none).height) (drop (i + 1) seats)
next_lines d s name from i seats none lt = ap (track_lines d (over s) name from) (drop_more seats i none lt)

-- a track's seats cover it
covered : (s : ViewersSeen WindowSeen) (track : Track) → AreViewers s → Covers s.tracks.height (seats_of s.tracks track)
covered s User viewers = viewers.divided.user_covered
covered s System viewers = viewers.divided.system_covered

-- a track has few rows
pub rows_fit : (s : ViewersSeen WindowSeen) (track : Track) (seats : List Seat) (from i : ℕ) (none : Seat) → AreViewers s
    → seats ≡ seats_of s.tracks track → from ≡ rows (take i seats) → i < length seats
    → from + (slice_index_or seats i none).height ≤ 100
rows_fit s track seats from i none viewers same above lt =
    let few = few_rows s.tracks.height seats (subst (Covers s.tracks.height) (sym same) (covered s track viewers)) in
    let all = next_bound seats i none lt in
    let low = viewers.divided.low in omega (arith, above, few, all, low)

-- the row before the next seat
pub next_row : (seats : List Seat) (from i : ℕ) (none : Seat) → from ≡ rows (take i seats) → i < length seats
    → from + (slice_index_or seats i none).height ≡ rows (take (i + 1) seats)
next_row seats from i none above lt =
    let next : rows (take (suc i) seats) ≡ rows (take i seats) + (slice_index_or seats i none).height =
    next_top seats i none lt in
    let e : suc i ≡ i + 1 = omega arith in
    let moved : rows (take (suc i) seats) ≡ rows (take (i + 1) seats) = ap (λ (k : ℕ). rows (take k seats)) e in
    omega (arith, above, next, moved)

-- the lines put so far, with those of the seats that are left, stay the same by one more seat
pub lines_go : (d : SiteTexts) (s : ViewersSeen WindowSeen) (name : List ℕ) (from i : ℕ) (seats : List Seat) (none : Seat)
    (before after all : List ℕ) → i < length seats
    → before ++ track_lines d (over s) name from (drop i seats) ≡ all
    → after ≡ before ++ seat_lines d s name from (slice_index_or seats i none)
    → after ++ track_lines d (over s) name (from + (slice_index_or seats i none).height) (drop (i + 1) seats) ≡ all
lines_go d s name from i seats none before after all lt so_far put =
    let seat = slice_index_or seats i none in
    let left : List ℕ = track_lines d (over s) name (from + seat.height) (drop (i + 1) seats) in
    ap (λ (l : List ℕ). l ++ left) put
    ∙ append_assoc before (seat_lines d s name from seat) left
    ∙ ap (λ (l : List ℕ). before ++ l) (sym (next_lines d s name from i seats none lt))
    ∙ so_far

-- no viewer stands in both tracks
one_track : (t : ScreenSeen) (v : ℕ) → times v (seated t.user) + times v (seated t.system) ≤ 1
    → has t.system v ≡ true → has t.user v ≡ false
one_track t v once system = by_test (has t.user v) refl
  where
    by_test : (b : Bool) → has t.user v ≡ b → b ≡ false
    by_test true user =
        let one = has_times t.user v user in let other = has_times t.system v system in
        absurd (omega (arith, one, other, once))
    by_test false user = refl

-- the viewer that has a row of a track has an area there
pub record Stands (t : ScreenSeen) (track : Track) (row v : ℕ) : Type 0 where
  pub seat : has (seats_of t track) v ≡ true
  pub above : top (seats_of t track) (seat_index (seats_of t track) v) ≤ row
  pub below : row < bottom (seats_of t track) (seat_index (seats_of t track) v)
  pub area : area_of t v ≡ Some (area_in (seats_of t track) v (column_of t.width track) (width_of t.width track))

stands_in : (t : ScreenSeen) (track : Track) (row v : ℕ) → IsScreen t
    → times v (seated t.user) + times v (seated t.system) ≤ 1 → row < t.height
    → viewer_in (seats_of t track) row ≡ Some v → Stands t track row v
stands_in t User row v divided once lt at =
    let held = row_in_seat t.height t.user row v divided.user_covered lt (omega (arith, once)) at in
    record {
      seat = held.0;
      above = held.1;
      below = held.2;
      area = ap (λ (b : Bool). cond b (Some (area_in t.user v 0 (user_width t.width))) (cond (has t.system v) (Some (area_in t.system v (user_width t.width) (t.width - user_width t.width))) None)) held.0;
    }
stands_in t System row v divided once lt at =
    let held = row_in_seat t.height t.system row v divided.system_covered lt (omega (arith, once)) at in
    record {
      seat = held.0;
      above = held.1;
      below = held.2;
      area = ap (λ (b : Bool). cond b (Some (area_in t.user v 0 (user_width t.width))) (cond (has t.system v) (Some (area_in t.system v (user_width t.width) (t.width - user_width t.width))) None)) (one_track t v once held.0)
          ∙ ap (λ (b : Bool). cond b (Some (area_in t.system v (user_width t.width) (t.width - user_width t.width))) None) held.0;
    }

pub stands : (s : ViewersSeen WindowSeen) (track : Track) (row v : ℕ) → AreViewers s → row < s.tracks.height
    → viewer_in (seats_of s.tracks track) row ≡ Some v → Stands s.tracks track row v
stands s track row v viewers lt at =
    let all = viewers.once v in
    let few = times_once 1 s.next v (numbers s.contents) viewers.rising in
    stands_in s.tracks track row v viewers.divided (omega (arith, all, few)) lt at

-- the viewer at a track's first column is the one that has the row
pub at_first : (t : ScreenSeen) (track : Track) (row : ℕ) → IsScreen t
    → viewer_at t (column_of t.width track) row ≡ viewer_in (seats_of t track) row
at_first t User row divided =
    let wide = divided.wide in
    let lt : 0 < user_width t.width = omega (arith, wide) in
    ap (λ (b : Bool). cond b (viewer_in t.user row) (cond (nat_lt 0 t.width) (viewer_in t.system row) None))
    (lt-ltb 0 (user_width t.width) lt)
at_first t System row divided =
    let wide = divided.wide in
    let u : ℕ = user_width t.width in
    let in_it : user_width t.width < t.width = omega (arith, wide) in
    ap (λ (b : Bool). cond b (viewer_in t.user row) (cond (nat_lt (user_width t.width) t.width) (viewer_in t.system row) None))
    (not_below (user_width t.width))
    ∙ ap (λ (b : Bool). cond b (viewer_in t.system row) None) (lt-ltb (user_width t.width) t.width in_it)
  where
    not_below : (n : ℕ) → nat_lt n n ≡ false
    not_below n = by_test (nat_lt n n) refl
      where
        by_test : (b : Bool) → nat_lt n n ≡ b → b ≡ false
        by_test true is = let lt = ltb-true n n is in absurd (omega (arith, lt))
        by_test false is = refl

-- a viewer that has a row has an area, which begins no lower
pub holds : (s : ViewersSeen WindowSeen) (track : Track) (row v : ℕ) (a : Area) → AreViewers s → row < s.tracks.height
    → viewer_at s.tracks (column_of s.tracks.width track) row ≡ Some v → area_of s.tracks v ≡ Some a
    → (a.top ≤ row) × HoldsRow s track row v (row - a.top)
holds s track row v a viewers lt at is =
    let here : viewer_in (seats_of s.tracks track) row ≡ Some v = sym (at_first s.tracks track row viewers.divided) ∙ at in
    let there = stands s track row v viewers lt here in
    let seats : List Seat = seats_of s.tracks track in
    let same : area_in (seats_of s.tracks track) v (column_of s.tracks.width track) (width_of s.tracks.width track) ≡ a =
    same_Some (area_in (seats_of s.tracks track) v (column_of s.tracks.width track) (width_of s.tracks.width track)) a (sym there.area ∙ is) in
    let first : top (seats_of s.tracks track) (seat_index (seats_of s.tracks track) v) ≡ a.top = ap (λ (x : Area). x.top) same in
    let high : height_at (seats_of s.tracks track) (seat_index (seats_of s.tracks track) v) ≡ a.height = ap (λ (x : Area). x.height) same in
    let above = there.above in let below = there.below in (
      omega (arith, first, above),
      record {
        viewer = here;
        stands = there.seat;
        line_is = ap (λ (n : ℕ). row - n) (sym first);
        area = a;
        is = is;
        in_area = omega (arith, first, high, above, below);
      },
    )

-- a viewer at a cell has an area
pub has_area : (s : ViewersSeen WindowSeen) (track : Track) (row v : ℕ) → AreViewers s → row < s.tracks.height
    → viewer_at s.tracks (column_of s.tracks.width track) row ≡ Some v → area_of s.tracks v ≡ None → ⊥
has_area s track row v viewers lt at none =
    let here : viewer_in (seats_of s.tracks track) row ≡ Some v = sym (at_first s.tracks track row viewers.divided) ∙ at in
    let there = stands s track row v viewers lt here in
    let seen = there.area in cc

-- as many cells as a row of blanks has
pub no_cells : (n : ℕ) → cells_of n [] ≡ blanks n
no_cells n = all n
  where
    all : (n : ℕ) → take n (blanks n) ≡ blanks n
    all zero = refl
    all (suc n) = ap (λ l. 32 ∷ l) (all n)

-- a row below the menu is one of the rows
below : (line n : ℕ) → (line ≡ 0 → ⊥) → line < 1 + n → line - 1 < n
below zero n some lt = absurd (some refl)
below (suc line) n some lt = omega (arith, lt)

-- a row that no viewer has is blank
pub blank_row : (d : SiteTexts) (s : ViewersSeen WindowSeen) (track : Track) (row n : ℕ)
    → n ≡ width_of s.tracks.width track → viewer_in (seats_of s.tracks track) row ≡ None
    → cells_of n [] ≡ cells_in d s track row
blank_row d s track row n wide none =
    no_cells n ∙ ap blanks wide
    ∙ sym (ap (λ (o : Option ℕ). option_map_or (λ v. option_map_or (λ shown. viewer_cells v shown (width_of s.tracks.width track) (row - top (seats_of s.tracks track) (seat_index (seats_of s.tracks track) v)))
    (shown_window d (over s) v) (blanks (width_of s.tracks.width track))) o (blanks (width_of s.tracks.width track))) none)

module _ (d : SiteTexts) (s : ViewersSeen WindowSeen) (track : Track) (row v line : ℕ) (held : HoldsRow s track row v line) where
  abbrev cells_so : Option (Window × TextState) → List ℕ
  cells_so o =
      option_map_or (λ shown. viewer_cells v shown (width_of s.tracks.width track) (row - top (seats_of s.tracks track) (seat_index (seats_of s.tracks track) v)))
      o (blanks (width_of s.tracks.width track))

  -- the row's cells are those of its viewer
  cells_are : cells_in d s track row ≡ cells_so (shown_window d (over s) v)
  cells_are =
      ap (λ (o : Option ℕ). option_map_or (λ v. option_map_or (λ shown. viewer_cells v shown (width_of s.tracks.width track) (row - top (seats_of s.tracks track) (seat_index (seats_of s.tracks track) v)))
      (shown_window d (over s) v) (blanks (width_of s.tracks.width track))) o (blanks (width_of s.tracks.width track))) held.viewer

  -- a viewer that shows nothing is blank
  pub empty_row : (n : ℕ) → n ≡ width_of s.tracks.width track → content_of s.contents v ≡ None
      → cells_of n [] ≡ cells_in d s track row
  empty_row n wide none =
      no_cells n ∙ ap blanks wide ∙ sym (cells_are ∙ ap cells_so (shown_nothing d (alone s) v 0 none))

  module _ (x : WindowSeen) (shows : ShowTexts d s) (at : content_of s.contents v ≡ Some x) where
    -- a window is as wide as its track
    pub as_wide : x.frame.width ≡ width_of s.tracks.width track
    as_wide = by_track track held.stands
      where
        by_track : (track : Track) → has (seats_of s.tracks track) v ≡ true → x.frame.width ≡ width_of s.tracks.width track
        by_track User has = (shows.texts v x at).in_user has
        by_track System has = (shows.texts v x at).in_system has

    -- the row is one of the window's, or the menu
    pub in_window : line < 1 + length x.frame.rows
    in_window =
        let high : suc (length x.frame.rows) ≡ held.area.height = shows.high v x held.area at held.is in
        let in_it = held.in_area in omega (arith, high, in_it)

    -- and its cells are those that the window has
    pub window_row : viewer_row v x line ≡ cells_in d s track row
    window_row =
        let old : ShowsText d s.tracks v x = shows.texts v x at in
        by_line (line == 0) refl
        ∙ ap (λ (n : ℕ). viewer_cells v (seen_window x, old.text) n line) as_wide
        ∙ ap (λ (n : ℕ). viewer_cells v (seen_window x, old.text) (width_of s.tracks.width track) n) held.line_is
        ∙ sym (cells_are ∙ ap cells_so (shown_text d (alone s) v 0 x x old.text at old.at))
      where
        by_line : (b : Bool) → eqb line 0 ≡ b
            → cond b (cells_of x.frame.width (menu_of v x.text)) (slice_index_or x.frame.rows (line - 1) no_row).cells
            ≡ cond b (cells_of x.frame.width (menu_of v x.text)) (row_from_anchor (shows.texts v x at).text x.frame.anchor x.frame.width (line - 1)).cells
        by_line true is = refl
        by_line false is =
            let some = eqb-false line 0 is in
            let there : line < 1 + length x.frame.rows = in_window in
            ap (λ (r : Row). r.cells) (row_told x.frame (shows.texts v x at).text (line - 1) no_row (shows.texts v x at).drawn (below (line) (length x.frame.rows) some there))

-- one line more of a screen
pub lines_more : (f : ℕ → List ℕ) (n : ℕ)
    → flat_map f (range_with_len 0 (n + 1)) ≡ flat_map f (range_with_len 0 n) ++ f n
lines_more f n =
    let more : range_with_len 0 (n + 1) ≡ range_with_len 0 n ++ n ∷ [] =
    sym (map-id (range_with_len 0 (n + 1))) ∙ map-range_with_len_more (λ (k : ℕ). k) 0 n n (omega arith)
    ∙ ap (λ (l : List ℕ). l ++ n ∷ []) (map-id (range_with_len 0 n)) in
    ap (flat_map f) more ∙ flat_map-append f (range_with_len 0 n) (n ∷ [])
    ∙ ap (λ (l : List ℕ). flat_map f (range_with_len 0 n) ++ l) (append-nil (f n))
