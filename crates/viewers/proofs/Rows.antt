-- One more seat: of the index that a row or a number leads to, and of the rows before.
use Rattle.std.proofs.Common.{◌≡◌, ℕ, suc, ◌+◌, ◌-◌, ◌<◌, ◌≤◌, List, [], ◌∷◌, length, get_or, refl, arith, Bool, true, false, cond, nat_lt, ltb-false, zero}
use Rattle.viewers.specs.declared.seats.Seat.{Seat}
use Rattle.viewers.specs.Tracks.{rows, top, seat_at, holder}

-- the rows before the next seat
pub next_top : (seats : List Seat) (i : ℕ) (d : Seat) → i < length seats
    → top seats (suc i) ≡ top seats i + (get_or seats i d).height
next_top [] i d lt = absurd (omega (arith, lt))
next_top (s ∷ rest) zero d lt = omega arith
next_top (s ∷ rest) (suc i) d lt =
    let e = next_top rest i d (omega (arith, lt)) in omega (arith, e)

-- no more than all rows are before a seat
pub top_bound : (seats : List Seat) (i : ℕ) → top seats i ≤ rows seats
top_bound [] zero = omega arith
top_bound [] (suc i) = omega arith
top_bound (s ∷ rest) zero = omega arith
top_bound (s ∷ rest) (suc i) = let e = top_bound rest i in omega (arith, e)

-- with the seat's own rows they are still no more
pub next_bound : (seats : List Seat) (i : ℕ) (d : Seat) → i < length seats
    → top seats i + (get_or seats i d).height ≤ rows seats
next_bound seats i d lt =
    let e = next_top seats i d lt in let b = top_bound seats (suc i) in omega (arith, e, b)

-- a seat that is there is the same whatever stands for one that isn't
pub same_seat : (seats : List Seat) (i : ℕ) (d : Seat) → i < length seats → get_or seats i d ≡ seat_at seats i
same_seat [] i d lt = absurd (omega (arith, lt))
same_seat (s ∷ rest) zero d lt = refl
same_seat (s ∷ rest) (suc i) d lt = same_seat rest i d (omega (arith, lt))

-- a row of the track is held by one of its seats
pub holder_there : (seats : List Seat) (row : ℕ) → row < rows seats → holder seats row < length seats
holder_there [] row lt = absurd (omega (arith, lt))
holder_there (s ∷ rest) row lt = by_test s rest row lt (holder_there rest (row - s.height)) (nat_lt row s.height) refl
  where
    by_test : (s : Seat) (rest : List Seat) (row : ℕ) → row < s.height + rows rest
        → (row - s.height < rows rest → holder rest (row - s.height) < length rest)
        → (b : Bool) → nat_lt row s.height ≡ b → cond b 0 (suc (holder rest (row - s.height))) < suc (length rest)
    by_test s rest row lt more true is = omega arith
    by_test s rest row lt more false is =
        let out = ltb-false row s.height is in
        let e = more (omega (arith, lt, out)) in omega (arith, e)

-- no seat has more rows than all
pub height_bound : (seats : List Seat) (i : ℕ) → (seat_at seats i).height ≤ rows seats
height_bound [] i = omega arith
height_bound (s ∷ rest) zero = omega arith
height_bound (s ∷ rest) (suc i) = let e = height_bound rest i in omega (arith, e)
