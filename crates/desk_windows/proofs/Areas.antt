-- How many rows the viewers of a screen have.
use Rattle.std.proofs.Common.{◌≡◌, ℕ, suc, ◌-◌, ◌<◌, ◌≤◌, List, length, Bool, true, false, cond, refl, sym, ap, ◌∙◌, subst, arith, Some, None}
use Rattle.std.proofs.lemmas.Bool.{ltb-true}
use Rattle.std.proofs.lemmas.Option.{same_Some}
use Rattle.viewers.specs.declared.screen.Area.{Area}
use Rattle.viewers.specs.declared.seats.Seat.{Seat}
use Rattle.viewers.specs.Screen.{IsScreen, ScreenSeen, area_in, area_of, has, user_width}
use Rattle.viewers.specs.Tracks.{Covers, height_at, seat_index, seat_at}
use Rattle.viewers.specs.Viewers.{ViewersSeen}
use Rattle.viewers.proofs.Covering.{few_rows, tall_at}
use Rattle.viewers.proofs.Rows.{height_bound}
use Rattle.viewers.proofs.Seating.{number_there}
use Rattle.desk_windows.specs.Windows.{HasRows, WindowSeen}

seat_fits : (height : ℕ) (seats : List Seat) (v : ℕ) → Covers height seats → height ≤ 100 → has seats v ≡ true
    → (2 ≤ height_at seats (seat_index seats v)) × (height_at seats (seat_index seats v) ≤ 100)
seat_fits height seats v covers low is =
    let tall = tall_at seats (seat_index seats v) covers.tall (ltb-true (seat_index seats v) (length seats) is) in
    let few = few_rows height seats covers in
    let bound = height_bound seats (seat_index seats v) in (tall, omega (arith, few, bound, low))

-- a viewer has 2 to 100 rows
pub area_fits : (t : ScreenSeen) (v : ℕ) (a : Area) → IsScreen t → area_of t v ≡ Some a → (2 ≤ a.height) × (a.height ≤ 100)
area_fits t v a screen is = by_tests (has t.user v) (has t.system v) refl refl is
  where
    by_tests : (b d : Bool) → has t.user v ≡ b → has t.system v ≡ d
        → cond b (Some (area_in t.user v 0 (user_width t.width))) (cond d (Some (area_in t.system v (user_width t.width) (t.width - user_width t.width))) None) ≡ Some a
        → (2 ≤ a.height) × (a.height ≤ 100)
    by_tests true d user system is =
        let same = ap (λ (x : Area). x.height) (same_Some (area_in t.user v 0 (user_width t.width)) a is) in
        let fits = seat_fits t.height t.user v screen.user_covered screen.low user in
        let some = fits.0 in let few = fits.1 in (omega (arith, same, some), omega (arith, same, few))
    by_tests false true user system is =
        let same = ap (λ (x : Area). x.height) (same_Some (area_in t.system v (user_width t.width) (t.width - user_width t.width)) a is) in
        let fits = seat_fits t.height t.system v screen.system_covered screen.low system in
        let some = fits.0 in let few = fits.1 in (omega (arith, same, some), omega (arith, same, few))
    by_tests false false user system is = cc

-- a viewer that has an area has a seat in one of the tracks
pub all_rows : (t : ScreenSeen) (s : ViewersSeen WindowSeen) → s.tracks ≡ t
    → ((i : ℕ) → i < length t.user → HasRows s (seat_at t.user i).number)
    → ((i : ℕ) → i < length t.system → HasRows s (seat_at t.system i).number) → (v : ℕ) → HasRows s v
all_rows t s same user system v w area shown is =
    by_tests (has t.user v) (has t.system v) refl refl (sym (ap (λ (x : ScreenSeen). area_of x v) same) ∙ is)
  where
    by_seat : (seats : List Seat) → ((i : ℕ) → i < length seats → HasRows s (seat_at seats i).number) → has seats v ≡ true
        → suc (length w.frame.rows) ≡ area.height
    by_seat seats rows at =
        let lt = ltb-true (seat_index seats v) (length seats) at in
        subst (λ (n : ℕ). HasRows s n) (number_there seats v lt) (rows (seat_index seats v) lt) w area shown is

    by_tests : (b d : Bool) → has t.user v ≡ b → has t.system v ≡ d
        → cond b (Some (area_in t.user v 0 (user_width t.width))) (cond d (Some (area_in t.system v (user_width t.width) (t.width - user_width t.width))) None) ≡ Some area
        → suc (length w.frame.rows) ≡ area.height
    by_tests true d at other e = by_seat t.user user at
    by_tests false true other at e = by_seat t.system system at
    by_tests false false other at e = cc
