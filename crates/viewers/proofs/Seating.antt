-- The numbers of a track's viewers, as viewers open, close and move.
use Rattle.std.proofs.Common.{◌≡◌, ℕ, zero, suc, ◌+◌, ◌-◌, ◌<◌, ◌≤◌, List, [], ◌∷◌, length, true, false, cond, eqb, get_or, refl, sym, ap, ◌∙◌, arith}
use Rattle.std.proofs.lemmas.Bool.{ltb-true, ltb-false}
use Rattle.std.proofs.lemmas.List.{length-map}
use Rattle.std.specs.List.{insert, remove}
use Rattle.viewers.specs.declared.seats.Seat.{Seat}
use Rattle.viewers.specs.Screen.{has}
use Rattle.viewers.specs.Tracks.{bottom, closed, cut_row, heir, height_at, holder, moved, opened, seat_index, seat_at, top, with_height}
use Rattle.viewers.specs.Viewers.{index_of, seated, times}
use Rattle.viewers.proofs.Numbers.{index_found, index_there, one_if, times_with, times_without}

pub seated_with_height : (seats : List Seat) (i h : ℕ) → seated (with_height seats i h) ≡ seated seats
seated_with_height [] i h = refl
seated_with_height (s ∷ rest) zero h = refl
seated_with_height (s ∷ rest) (suc i) h = ap (λ l. s.number ∷ l) (seated_with_height rest i h)

seated_insert : (seats : List Seat) (i : ℕ) (s : Seat) → seated (insert seats i s) ≡ insert (seated seats) i s.number
seated_insert [] zero s = refl
seated_insert [] (suc i) s = refl
seated_insert (t ∷ rest) zero s = refl
seated_insert (t ∷ rest) (suc i) s = ap (λ l. t.number ∷ l) (seated_insert rest i s)

seated_remove : (seats : List Seat) (i : ℕ) → seated (remove seats i) ≡ remove (seated seats) i
seated_remove [] zero = refl
seated_remove [] (suc i) = refl
seated_remove (t ∷ rest) zero = refl
seated_remove (t ∷ rest) (suc i) = ap (λ l. t.number ∷ l) (seated_remove rest i)

seated_at : (seats : List Seat) (i : ℕ) → i < length seats → get_or (seated seats) i 0 ≡ (seat_at seats i).number
seated_at [] i lt = absurd (omega (arith, lt))
seated_at (s ∷ rest) zero lt = refl
seated_at (s ∷ rest) (suc i) lt = seated_at rest i (omega (arith, lt))

pub length_seated : (seats : List Seat) → length (seated seats) ≡ length seats
length_seated seats = length-map seats (λ s. s.number)

-- a viewer's seat is where its number stands
pub seat_index_is : (seats : List Seat) (v : ℕ) → seat_index seats v ≡ index_of (seated seats) v
seat_index_is [] v = refl
seat_index_is (s ∷ rest) v = ap (λ n. cond (eqb s.number v) 0 (suc n)) (seat_index_is rest v)

pub number_there : (seats : List Seat) (v : ℕ) → seat_index seats v < length seats → (seat_at seats (seat_index seats v)).number ≡ v
number_there seats v lt =
    let i = seat_index_is seats v in let n = length_seated seats in
    let there = index_there (seated seats) v (index_found (seated seats) v (omega (arith, lt, i, n))) in
    sym (seated_at seats (seat_index seats v) lt) ∙ ap (λ k. get_or (seated seats) k 0) i ∙ there.1

-- a viewer that has a seat is among the numbers, and no other is
pub has_times : (seats : List Seat) (v : ℕ) → has seats v ≡ true → 0 < times v (seated seats)
has_times seats v is =
    let lt = ltb-true (seat_index seats v) (length seats) is in let i = seat_index_is seats v in let n = length_seated seats in
    index_found (seated seats) v (omega (arith, lt, i, n))

pub has_no_times : (seats : List Seat) (v : ℕ) → has seats v ≡ false → times v (seated seats) ≡ 0
has_no_times seats v is =
    let le = ltb-false (seat_index seats v) (length seats) is in let i = seat_index_is seats v in let n = length_seated seats in
    by_times (times v (seated seats)) refl le i n
  where
    by_times : (m : ℕ) → times v (seated seats) ≡ m → length seats ≤ seat_index seats v → seat_index seats v ≡ index_of (seated seats) v
        → length (seated seats) ≡ length seats → m ≡ 0
    by_times zero e le i n = refl
    by_times (suc m) e le i n =
        let there = (index_there (seated seats) v (omega (arith, e))).0 in absurd (omega (arith, there, le, i, n))

-- the numbers as a viewer opens, as one closes, and as a top is moved
pub times_opened : (height : ℕ) (seats : List Seat) (v row w : ℕ)
    → times w (seated (opened height seats v row)) ≡ times w (seated seats) + one_if v w
times_opened height [] v row w = omega arith
times_opened height (s ∷ rest) v row w =
    let seats = s ∷ rest in let i = holder (s ∷ rest) row in
    let first = with_height (s ∷ rest) i (cut_row (s ∷ rest) i row - top (s ∷ rest) i) in
    let new : Seat = record { number = v; height = bottom (s ∷ rest) i - cut_row (s ∷ rest) i row } in
    ap (times w) (seated_insert first (i + 1) new) ∙ times_with (seated first) (i + 1) v w
    ∙ ap (λ l. times w l + one_if v w) (seated_with_height (s ∷ rest) i (cut_row (s ∷ rest) i row - top (s ∷ rest) i))

pub times_closed : (seats : List Seat) (i w : ℕ) → i < length seats
    → times w (seated (closed seats i)) + one_if (seat_at seats i).number w ≡ times w (seated seats)
times_closed seats i w lt =
    let wide = height_at seats (heir i) + height_at seats i in
    let left = ap (times w) (seated_remove (with_height seats (heir i) wide) i)
    ∙ ap (λ l. times w (remove l i)) (seated_with_height seats (heir i) wide) in
    let n = length_seated seats in
    let out = times_without (seated seats) i w (omega (arith, lt, n)) in
    let same = ap (λ k. one_if k w) (seated_at seats i lt) in omega (arith, left, out, same)

pub seated_moved : (seats : List Seat) (i row : ℕ) → seated (moved seats i row) ≡ seated seats
seated_moved seats i row =
    let above = with_height seats (i - 1) (row - top seats (i - 1)) in
    seated_with_height above i (bottom seats i - row) ∙ seated_with_height seats (i - 1) (row - top seats (i - 1))
