-- A screen whose viewers are numbered stays so as viewers open, close and move.
use Rattle.std.proofs.Common.{◌≡◌, ℕ, ◌+◌, ◌-◌, ◌*◌, ◌^◌, ◌<◌, ◌≤◌, List, [], ◌∷◌, ◌++◌, length, length-append, Bool, true, false, cond, refl, ap, ◌∙◌, subst, arith, Result, Ok, Err, Some}
use Rattle.std.proofs.lemmas.Bool.{leb-true, lt-ltb, ltb-true}
use Rattle.std.specs.List.{remove}
use Rattle.std.specs.Prelude.{◌&&◌, nat_le, nat_lt}
use Rattle.looks.specs.declared.refusal.Refusal.{Refusal}
use Rattle.looks.specs.declared.refusal.Refusal.TheVariants.{NoRoom, NoViewer}
use Rattle.viewers.specs.declared.screen.Track.{Track}
use Rattle.viewers.specs.declared.screen.Track.TheVariants.{User, System}
use Rattle.viewers.specs.declared.seats.Seat.{Seat}
use Rattle.viewers.specs.Screen.{ScreenSeen, after_close, after_closing, after_move, after_moving, after_open, closing, has, open_answer, seats_of, with_seats}
use Rattle.viewers.specs.Tracks.{AreTall, Covers, bottom, can_move, can_open, closed, moved, opened, seat_index, rows, top}
use Rattle.viewers.specs.Viewers.{AreNumbered, ViewersSeen, has_room, index_of, seated, times}
use Rattle.viewers.proofs.Covering.{closed_covers, few_rows, moved_covers, one_covers, opened_covers, room_to_open}
use Rattle.viewers.proofs.Numbers.{index_there, one_if, rising_next, rising_without, same_length, times_both, times_with_last, times_without}
use Rattle.viewers.proofs.Seating.{has_no_times, has_times, length_seated, number_there, seated_moved, times_closed, times_opened}

-- a track stays covered as a viewer opens
pub open_covers : (height : ℕ) (seats : List Seat) (v row : ℕ) → Covers height seats → 8 ≤ height → row < height
    → Covers height (after_open height seats v row)
open_covers height [] v row covers high lt = one_covers height v high
open_covers height (s ∷ rest) v row covers high lt = by_test (can_open (s ∷ rest) row) refl
  where
    by_test : (b : Bool) → can_open (s ∷ rest) row ≡ b → Covers height (cond b (opened height (s ∷ rest) v row) (s ∷ rest))
    by_test true is = opened_covers height v row (s ∷ rest) covers lt (omega arith) is
    by_test false is = covers

-- as one closes
pub close_covers : (height : ℕ) (seats : List Seat) (v : ℕ) → Covers height seats → Covers height (after_close seats v)
close_covers height seats v covers = by_test (has seats v) refl
  where
    by_test : (b : Bool) → has seats v ≡ b → Covers height (cond b (closed seats (seat_index seats v)) seats)
    by_test true is = closed_covers height (seat_index seats v) seats covers (ltb-true (seat_index seats v) (length seats) is)
    by_test false is = covers

-- and as a top is moved
pub move_covers : (height : ℕ) (seats : List Seat) (v row : ℕ) → Covers height seats
    → Covers height (after_move seats v row)
move_covers height seats v row covers =
    by_tests (seat_index seats v) (has seats v) (nat_lt 0 (seat_index seats v)) (nat_le (top seats (seat_index seats v - 1) + 2) row)
    (nat_le (row + 2) (bottom seats (seat_index seats v))) refl refl refl refl
  where
    by_tests : (i : ℕ) (a b d e : Bool) → nat_lt i (length seats) ≡ a → nat_lt 0 i ≡ b → nat_le (top seats (i - 1) + 2) row ≡ d
        → nat_le (row + 2) (bottom seats i) ≡ e → Covers height (cond (a && ((b && d) && e)) (moved seats i row) seats)
    by_tests i true true true true is some above below =
        moved_covers height i row seats covers (ltb-true i (length seats) is) (ltb-true 0 i some)
        (leb-true (top seats (i - 1) + 2) row above) (leb-true (row + 2) (bottom seats i) below)
    by_tests i false b d e is some above below = covers
    by_tests i true false d e is some above below = covers
    by_tests i true true false e is some above below = covers
    by_tests i true true true false is some above below = covers

-- whether a viewer opens in a track, by what is answered, and the tracks then
pub opens : (seats : List Seat) (row : ℕ) (u : Unit) → open_answer seats row ≡ Ok u → can_open seats row ≡ true
opens seats row u ok = by_test (can_open seats row) ok
  where
    by_test : (b : Bool) → ◌≡◌ {A = Result Unit Refusal} (cond b (Ok tt) (Err NoRoom)) (Ok u) → b ≡ true
    by_test true ok = refl
    by_test false ok = cc

opens_not : (seats : List Seat) (row : ℕ) (why : Refusal) → open_answer seats row ≡ Err why → can_open seats row ≡ false
opens_not seats row why err = by_test (can_open seats row) err
  where
    by_test : (b : Bool) → ◌≡◌ {A = Result Unit Refusal} (cond b (Ok tt) (Err NoRoom)) (Err why) → b ≡ false
    by_test true err = cc
    by_test false err = refl

pub tracks_opened : (t : ScreenSeen) (track : Track) (v row : ℕ) → can_open (seats_of t track) row ≡ true
    → with_seats t track (after_open t.height (seats_of t track) v row) ≡ with_seats t track (opened t.height (seats_of t track) v row)
tracks_opened t track v row is =
    ap (λ b. with_seats t track (cond b (opened t.height (seats_of t track) v row) (seats_of t track))) is

same_tracks : (t : ScreenSeen) (track : Track) → with_seats t track (seats_of t track) ≡ t
same_tracks t User = refl
same_tracks t System = refl

pub tracks_kept : (t : ScreenSeen) (track : Track) (v row : ℕ) (why : Refusal) → open_answer (seats_of t track) row ≡ Err why
    → with_seats t track (after_open t.height (seats_of t track) v row) ≡ t
tracks_kept t track v row why err =
    ap (λ b. with_seats t track (cond b (opened t.height (seats_of t track) v row) (seats_of t track)))
    (opens_not (seats_of t track) row why err)
    ∙ same_tracks t track

pub has_room_is : {C : Type 0} (s : ViewersSeen C) (track : Track) (row : ℕ) → s.next < 2 ^ 32
    → can_open (seats_of s.tracks track) row ≡ true → has_room s track (Some row) ≡ true
has_room_is s track row few is = ap (λ b. b && can_open (seats_of s.tracks track) row) (lt-ltb s.next (2 ^ 32) few) ∙ is

-- a viewer that may open finds a place for its number
tall_rows : (seats : List Seat) → AreTall seats → 2 * length seats ≤ rows seats
tall_rows [] tall = omega arith
tall_rows (s ∷ rest) tall = let e = tall_rows rest tall.1 in let t = tall.0 in omega (arith, e, t)

few_seats : (height : ℕ) (seats : List Seat) → Covers height seats → height ≤ 100 → length seats ≤ 50
few_seats height seats covers low =
    let t = tall_rows seats covers.tall in let f = few_rows height seats covers in omega (arith, t, f, low)

room_in : (height row : ℕ) (seats : List Seat) → Covers height seats → height ≤ 100 → row < height
    → can_open seats row ≡ true → length seats < 50
room_in height row [] covers low lt is = omega arith
room_in height row (s ∷ rest) covers low lt is = room_to_open height row (s ∷ rest) covers low lt (omega arith) is

-- there are as many numbers as seats
pub all_numbers : (t : ScreenSeen) (next : ℕ) (ks : List ℕ) → AreNumbered t next ks
    → length t.user + length t.system ≡ length ks
all_numbers t next ks numbered =
    let u = length_seated t.user in let s = length_seated t.system in
    let both = length-append (seated t.user) (seated t.system) in
    let same = same_length (seated t.user ++ seated t.system) ks
    (λ v. times_both (seated t.user) (seated t.system) v ∙ numbered.once v) in
    omega (arith, u, s, both, same)

pub room_left : (t : ScreenSeen) (next row : ℕ) (ks : List ℕ) (track : Track) → AreNumbered t next ks → row < t.height
    → can_open (seats_of t track) row ≡ true → length ks < 100
room_left t next row ks User numbered lt is =
    let d = numbered.divided in
    let a = room_in t.height row t.user d.user_covered d.low lt is in
    let b = few_seats t.height t.system d.system_covered d.low in
    let n = all_numbers t next ks numbered in omega (arith, a, b, n)
room_left t next row ks System numbered lt is =
    let d = numbered.divided in
    let a = room_in t.height row t.system d.system_covered d.low lt is in
    let b = few_seats t.height t.user d.user_covered d.low in
    let n = all_numbers t next ks numbered in omega (arith, a, b, n)

pub numbered_opened : (t : ScreenSeen) (next row : ℕ) (ks : List ℕ) (track : Track) → AreNumbered t next ks
    → next < 2 ^ 32 → row < t.height → can_open (seats_of t track) row ≡ true
    → AreNumbered (with_seats t track (opened t.height (seats_of t track) next row)) (next + 1) (ks ++ next ∷ [])
numbered_opened t next row ks User numbered few lt is =
    let d = numbered.divided in
    record {
      divided = record {
        wide = d.wide;
        narrow = d.narrow;
        high = d.high;
        low = d.low;
        system_covered = d.system_covered;
        user_covered = subst (λ b. Covers t.height (cond b (opened t.height t.user next row) t.user)) is
            (open_covers t.height t.user next row d.user_covered d.high lt);
      };
      rising = rising_next 1 next ks numbered.rising;
      last = omega (arith, few);
      once = λ v. let e = times_opened t.height t.user next row v in let o = numbered.once v in
          let l = times_with_last ks next v in omega (arith, e, o, l);
    }
numbered_opened t next row ks System numbered few lt is =
    let d = numbered.divided in
    record {
      divided = record {
        wide = d.wide;
        narrow = d.narrow;
        high = d.high;
        low = d.low;
        user_covered = d.user_covered;
        system_covered = subst (λ b. Covers t.height (cond b (opened t.height t.system next row) t.system)) is
            (open_covers t.height t.system next row d.system_covered d.high lt);
      };
      rising = rising_next 1 next ks numbered.rising;
      last = omega (arith, few);
      once = λ v. let e = times_opened t.height t.system next row v in let o = numbered.once v in
          let l = times_with_last ks next v in omega (arith, e, o, l);
    }

seated_after_move : (seats : List Seat) (v row : ℕ) → seated (after_move seats v row) ≡ seated seats
seated_after_move seats v row = by_test (has seats v && can_move seats (seat_index seats v) row)
  where
    by_test : (b : Bool) → seated (cond b (moved seats (seat_index seats v) row) seats) ≡ seated seats
    by_test true = seated_moved seats (seat_index seats v) row
    by_test false = refl

pub numbered_moved : (t : ScreenSeen) (next v row : ℕ) (ks : List ℕ) → AreNumbered t next ks
    → AreNumbered (after_moving t v row) next ks
numbered_moved t next v row ks numbered = by_test (has t.user v)
  where
    by_test : (b : Bool) → AreNumbered (cond b (record t { user = after_move t.user v row }) (record t { system = after_move t.system v row })) next ks
    by_test true =
        let d = numbered.divided in
        record {
          divided = record {
            wide = d.wide;
            narrow = d.narrow;
            high = d.high;
            low = d.low;
            system_covered = d.system_covered;
            user_covered = move_covers t.height t.user v row d.user_covered;
          };
          rising = numbered.rising;
          last = numbered.last;
          once = λ w. ap (λ l. times w l + times w (seated t.system)) (seated_after_move t.user v row) ∙ numbered.once w;
        }
    by_test false =
        let d = numbered.divided in
        record {
          divided = record {
            wide = d.wide;
            narrow = d.narrow;
            high = d.high;
            low = d.low;
            user_covered = d.user_covered;
            system_covered = move_covers t.height t.system v row d.system_covered;
          };
          rising = numbered.rising;
          last = numbered.last;
          once = λ w. ap (λ l. times w (seated t.user) + times w l) (seated_after_move t.system v row) ∙ numbered.once w;
        }

-- a viewer closes where it has a seat
pub closing_there : (t : ScreenSeen) (next v : ℕ) (ks : List ℕ) → AreNumbered t next ks → closing t v ≡ Ok tt → 0 < times v ks
closing_there t next v ks numbered ok = by_tests (has t.user v) (has t.system v) refl refl ok
  where
    by_tests : (a b : Bool) → has t.user v ≡ a → has t.system v ≡ b
        → ◌≡◌ {A = Result Unit Refusal} (cond a (Ok tt) (cond b (Ok tt) (Err NoViewer))) (Ok tt) → 0 < times v ks
    by_tests true b is other ok =
        let e = has_times t.user v is in let o = numbered.once v in omega (arith, e, o)
    by_tests false true is other ok =
        let e = has_times t.system v other in let o = numbered.once v in omega (arith, e, o)
    by_tests false false is other ok = cc

-- and nowhere else, where all is as it was
pub closing_nowhere : (t : ScreenSeen) (next v : ℕ) (ks : List ℕ) (why : Refusal) → AreNumbered t next ks → closing t v ≡ Err why
    → (why ≡ NoViewer) × (times v ks ≡ 0) × (after_closing t v ≡ t)
closing_nowhere t next v ks why numbered err = by_tests (has t.user v) (has t.system v) refl refl err
  where
    by_tests : (a b : Bool) → has t.user v ≡ a → has t.system v ≡ b
        → ◌≡◌ {A = Result Unit Refusal} (cond a (Ok tt) (cond b (Ok tt) (Err NoViewer))) (Err why)
        → (why ≡ NoViewer) × (times v ks ≡ 0)
        × (cond a (record t { user = cond a (closed t.user (seat_index t.user v)) t.user })
        (record t { system = cond b (closed t.system (seat_index t.system v)) t.system }) ≡ t)
    by_tests true b is other err = cc
    by_tests false true is other err = cc
    by_tests false false is other err =
        let u = has_no_times t.user v is in let s = has_no_times t.system v other in let o = numbered.once v in
        (cc, omega (arith, u, s, o), refl)

times_after_close : (seats : List Seat) (v w : ℕ) → has seats v ≡ true
    → times w (seated (after_close seats v)) + one_if v w ≡ times w (seated seats)
times_after_close seats v w is =
    let lt = ltb-true (seat_index seats v) (length seats) is in
    let e = times_closed seats (seat_index seats v) w lt in
    let n = ap (λ k. one_if k w) (number_there seats v lt) in
    let out : after_close seats v ≡ closed seats (seat_index seats v) = ap (λ b. cond b (closed seats (seat_index seats v)) seats) is in
    let t = ap (λ l. times w (seated l)) out in omega (arith, e, n, t)

is_there : (b : Bool) → ◌≡◌ {A = Result Unit Refusal} (cond b (Ok tt) (Err NoViewer)) (Ok tt) → b ≡ true
is_there true ok = refl
is_there false ok = cc

pub numbered_closed : (t : ScreenSeen) (next v : ℕ) (ks : List ℕ) → AreNumbered t next ks → 0 < times v ks
    → closing t v ≡ Ok tt → AreNumbered (after_closing t v) next (remove ks (index_of ks v))
numbered_closed t next v ks numbered there ok = by_test (has t.user v) refl ok
  where
    by_test : (b : Bool) → has t.user v ≡ b
        → ◌≡◌ {A = Result Unit Refusal} (cond b (Ok tt) (cond (has t.system v) (Ok tt) (Err NoViewer))) (Ok tt)
        → AreNumbered (cond b (record t { user = after_close t.user v }) (record t { system = after_close t.system v })) next (remove ks (index_of ks v))
    by_test true is ok =
        let d = numbered.divided in let at = index_there ks v there in
        record {
          divided = record {
            wide = d.wide;
            narrow = d.narrow;
            high = d.high;
            low = d.low;
            system_covered = d.system_covered;
            user_covered = close_covers t.height t.user v d.user_covered;
          };
          rising = rising_without 1 next ks (index_of ks v) numbered.rising;
          last = numbered.last;
          once = λ w. let e = times_after_close t.user v w is in let o = numbered.once w in
              let l = times_without ks (index_of ks v) w at.0 in let k = ap (λ n. one_if n w) at.1 in
              omega (arith, e, o, l, k);
        }
    by_test false is ok =
        let d = numbered.divided in let at = index_there ks v there in
        record {
          divided = record {
            wide = d.wide;
            narrow = d.narrow;
            high = d.high;
            low = d.low;
            user_covered = d.user_covered;
            system_covered = close_covers t.height t.system v d.system_covered;
          };
          rising = rising_without 1 next ks (index_of ks v) numbered.rising;
          last = numbered.last;
          once = λ w. let e = times_after_close t.system v w (is_there (has t.system v) ok) in let o = numbered.once w in
              let l = times_without ks (index_of ks v) w at.0 in let k = ap (λ n. one_if n w) at.1 in
              omega (arith, e, o, l, k);
        }
