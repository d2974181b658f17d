-- Each viewer but the one that opens, closes or moves, and its neighbour, keeps its area.
use Rattle.std.proofs.Common.{◌≡◌, ◌≢◌, ℕ, ◌+◌, ◌-◌, ◌<◌, List, [], ◌∷◌, length, Bool, true, false, cond, refl, sym, ap, ◌∙◌, arith, Option, Some, None, Result, Ok, Err, eqb, inl, inr, is_some}
use Rattle.std.specs.Prelude.{◌&&◌, nat_le, nat_lt}
use Rattle.std.proofs.lemmas.Bool.{le-ltb, leb-true, lt-ltb, ltb-true}
use Rattle.looks.specs.declared.refusal.Refusal.{Refusal}
use Rattle.looks.specs.declared.refusal.Refusal.TheVariants.{NoRoom}
use Rattle.viewers.specs.declared.screen.Area.{Area}
use Rattle.viewers.specs.declared.screen.Track.{Track}
use Rattle.viewers.specs.declared.screen.Track.TheVariants.{User, System}
use Rattle.viewers.specs.declared.seats.Seat.{Seat}
use Rattle.viewers.specs.Laws.{AreUnused, ClosingKeepsOthers, MovingKeepsOthers, OpeningKeepsOthers, OpeningRises, ShowWhereTheyStand, StaysCovered, above, heir_of}
use Rattle.viewers.specs.Screen.{ScreenSeen, after_close, after_move, after_open, area_in, area_of, has, user_width}
use Rattle.viewers.specs.Tracks.{Covers, bottom, can_open, closed, holder, moved, opened, seat_index, top, viewer_in}
use Rattle.viewers.specs.Viewers.{ViewersSeen, content_of, has_room, numbers, times, with_viewer}
use Rattle.viewers.proofs.Covering.{four_rows, row_there}
use Rattle.viewers.proofs.Keeping.{closed_found, divided_found, found, moved_found, passed, system_area, user_area}
use Rattle.viewers.proofs.Numbers.{none_next}
use Rattle.viewers.proofs.Rows.{holder_there}
use Rattle.viewers.proofs.Screens.{close_covers, move_covers, open_covers}
use Rattle.viewers.proofs.Seating.{has_no_times, has_times, number_there}

pub stays_covered : (height : ℕ) (seats : List Seat) → StaysCovered height seats
stays_covered height seats high covers v row lt =
    (open_covers height seats v row covers high lt, close_covers height seats v covers, move_covers height seats v row covers)

kept_by_opening : (height : ℕ) (seats : List Seat) (v row w : ℕ) → Covers height seats → row < height → w ≢ v
    → viewer_in seats row ≢ Some w → found (after_open height seats v row) w ≡ found seats w
kept_by_opening height [] v row w covers lt other apart = passed (record { number = v; height = height }) [] w other
kept_by_opening height (s ∷ rest) v row w covers lt other apart = by_test (can_open (s ∷ rest) row) refl
  where
    by_test : (b : Bool) → can_open (s ∷ rest) row ≡ b
        → found (cond b (opened height (s ∷ rest) v row) (s ∷ rest)) w ≡ found (s ∷ rest) w
    by_test true is =
        elim (row_there height row (s ∷ rest) covers lt) [
          | inl none ↦ (let n = ap length none in absurd (omega (arith, n)))
          | inr there ↦ divided_found (s ∷ rest) v (holder (s ∷ rest) row) row w (holder_there (s ∷ rest) row there)
              (four_rows row (s ∷ rest) (omega arith) is) other (λ same. apart (ap Some (sym same)))
        ]
    by_test false is = refl

pub opening_keeps : (s : ScreenSeen) (track : Track) (v row : ℕ) → OpeningKeepsOthers s track v row
opening_keeps s User v row screen lt w other apart =
    user_area s (after_open s.height s.user v row) w
    (kept_by_opening s.height s.user v row w screen.user_covered lt other apart)
opening_keeps s System v row screen lt w other apart =
    system_area s (after_open s.height s.system v row) w
    (kept_by_opening s.height s.system v row w screen.system_covered lt other apart)

kept_by_closing : (seats : List Seat) (v w : ℕ) → w ≢ v → w ≢ heir_of seats v
    → found (after_close seats v) w ≡ found seats w
kept_by_closing seats v w other apart = by_test (has seats v) refl
  where
    by_test : (b : Bool) → has seats v ≡ b → found (cond b (closed seats (seat_index seats v)) seats) w ≡ found seats w
    by_test true is =
        let lt = ltb-true (seat_index seats v) (length seats) is in
        closed_found seats (seat_index seats v) w lt (λ same. other (same ∙ number_there seats v lt)) apart
    by_test false is = refl

pub closing_keeps : (s : ScreenSeen) (v : ℕ) → ClosingKeepsOthers s v
closing_keeps s v w other apart = by_test (has s.user v) apart
  where
    by_test : (b : Bool) → w ≢ heir_of (cond b s.user s.system) v
        → area_of (cond b (record s { user = after_close s.user v }) (record s { system = after_close s.system v })) w ≡ area_of s w
    by_test true apart = user_area s (after_close s.user v) w (kept_by_closing s.user v w other apart)
    by_test false apart = system_area s (after_close s.system v) w (kept_by_closing s.system v w other apart)

kept_by_moving : (seats : List Seat) (v row w : ℕ) → w ≢ v → w ≢ above seats v
    → found (after_move seats v row) w ≡ found seats w
kept_by_moving seats v row w other apart =
    by_tests (has seats v) (nat_lt 0 (seat_index seats v)) (nat_le (top seats (seat_index seats v - 1) + 2) row)
    (nat_le (row + 2) (bottom seats (seat_index seats v))) refl refl refl refl
  where
    by_tests : (a b d e : Bool) → has seats v ≡ a → nat_lt 0 (seat_index seats v) ≡ b
        → nat_le (top seats (seat_index seats v - 1) + 2) row ≡ d → nat_le (row + 2) (bottom seats (seat_index seats v)) ≡ e
        → found (cond (a && ((b && d) && e)) (moved seats (seat_index seats v) row) seats) w ≡ found seats w
    by_tests true true true true is some high low =
        let lt = ltb-true (seat_index seats v) (length seats) is in
        moved_found seats (seat_index seats v) row w lt (ltb-true 0 (seat_index seats v) some)
        (leb-true (top seats (seat_index seats v - 1) + 2) row high) (leb-true (row + 2) (bottom seats (seat_index seats v)) low)
        (λ same. other (same ∙ number_there seats v lt)) apart
    by_tests false b d e is some high low = refl
    by_tests true false d e is some high low = refl
    by_tests true true false e is some high low = refl
    by_tests true true true false is some high low = refl

pub moving_keeps : (s : ScreenSeen) (v row : ℕ) → MovingKeepsOthers s v row
moving_keeps s v row w other apart = by_test (has s.user v) apart
  where
    by_test : (b : Bool) → w ≢ above (cond b s.user s.system) v
        → area_of (cond b (record s { user = after_move s.user v row }) (record s { system = after_move s.system v row })) w ≡ area_of s w
    by_test true apart = user_area s (after_move s.user v row) w (kept_by_moving s.user v row w other apart)
    by_test false apart = system_area s (after_move s.system v row) w (kept_by_moving s.system v row w other apart)

module _ {C : Type 0} where
  pub are_unused : (s : ViewersSeen C) → AreUnused s
  are_unused s numbered v le = by_tests (has s.tracks.user v) (has s.tracks.system v) refl refl
    where
      by_tests : (a b : Bool) → has s.tracks.user v ≡ a → has s.tracks.system v ≡ b
          → ◌≡◌ {A = Option Area} (cond a (Some (area_in s.tracks.user v 0 (user_width s.tracks.width))) (cond b (Some (area_in s.tracks.system v (user_width s.tracks.width) (s.tracks.width - user_width s.tracks.width))) None)) None
      by_tests true b is other =
          let e = has_times s.tracks.user v is in let o = numbered.once v in
          let none = none_next 1 s.next v (numbers s.contents) numbered.rising le in absurd (omega (arith, e, o, none))
      by_tests false true is other =
          let e = has_times s.tracks.system v other in let o = numbered.once v in
          let none = none_next 1 s.next v (numbers s.contents) numbered.rising le in absurd (omega (arith, e, o, none))
      by_tests false false is other = refl

  -- what stands among the numbers has a content
  content_times : (entries : List (ℕ × C)) (v : ℕ) → is_some (content_of entries v) ≡ nat_lt 0 (times v (numbers entries))
  content_times [] v = refl
  content_times (entry ∷ rest) v = by_test (eqb entry.0 v) (content_times rest v)
    where
      by_test : (b : Bool) → is_some (content_of rest v) ≡ nat_lt 0 (times v (numbers rest))
          → is_some (cond b (Some entry.1) (content_of rest v)) ≡ nat_lt 0 (cond b 1 0 + times v (numbers rest))
      by_test true more = sym (lt-ltb 0 (1 + times v (numbers rest)) (omega arith))
      by_test false more = let e : times v (numbers rest) ≡ 0 + times v (numbers rest) = omega arith in more ∙ ap (nat_lt 0) e

  pub show_where_they_stand : (s : ViewersSeen C) → ShowWhereTheyStand s
  show_where_they_stand s numbered v = by_tests (has s.tracks.user v) (has s.tracks.system v) refl refl
    where
      by_tests : (a b : Bool) → has s.tracks.user v ≡ a → has s.tracks.system v ≡ b
          → is_some (cond a (Some (area_in s.tracks.user v 0 (user_width s.tracks.width))) (cond b (Some (area_in s.tracks.system v (user_width s.tracks.width) (s.tracks.width - user_width s.tracks.width))) None)) ≡ is_some (content_of s.contents v)
      by_tests true b is other =
          let e = has_times s.tracks.user v is in let o = numbered.once v in
          sym (content_times s.contents v ∙ lt-ltb 0 (times v (numbers s.contents)) (omega (arith, e, o)))
      by_tests false true is other =
          let e = has_times s.tracks.system v other in let o = numbered.once v in
          sym (content_times s.contents v ∙ lt-ltb 0 (times v (numbers s.contents)) (omega (arith, e, o)))
      by_tests false false is other =
          let u = has_no_times s.tracks.user v is in let m = has_no_times s.tracks.system v other in let o = numbered.once v in
          sym (content_times s.contents v ∙ le-ltb 0 (times v (numbers s.contents)) (omega (arith, u, m, o)))

  pub opening_rises : (s : ViewersSeen C) (track : Track) (row : Option ℕ) (c : C) → OpeningRises s track row c
  opening_rises s track row c v ok = by_test (has_room s track row) ok
    where
      by_test : (b : Bool) → ◌≡◌ {A = Result ℕ (C × Refusal)} (cond b (Ok s.next) (Err (c, NoRoom))) (Ok v)
          → (v ≡ s.next) × (v < (cond b (with_viewer s track row c) s).next)
      by_test true ok = let e : s.next ≡ v = cc in (sym e, omega (arith, e))
      by_test false ok = cc
