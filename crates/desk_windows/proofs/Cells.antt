-- The cells of a viewer, and the position that one stands for.
use Rattle.std.proofs.Common.{◌≡◌, ℕ, zero, suc, ◌+◌, ◌-◌, ◌<◌, ◌≤◌, ◌⊎◌, List, [], ◌∷◌, length, Bool, true, false, cond, eqb, eqb-true, eq-eqb, nat_lt, refl, sym, ap, ◌∙◌, subst, inl, inr, arith, Some, None}
use Rattle.std.proofs.lemmas.Bool.{lt-ltb, ltb-false, ltb-true}
use Rattle.std.proofs.lemmas.List.{get_or_past, length-map}
use Rattle.std.proofs.lemmas.Option.{same_Some}
use Rattle.line_drawing.specs.Lines.{end_of, line_at, lines}
use Rattle.line_drawing.proofs.Lines.{extent-lines, extent-next, extent-take}
use Rattle.viewers.specs.declared.screen.Area.{Area}
use Rattle.viewers.specs.declared.screen.Track.TheVariants.{User, System}
use Rattle.viewers.specs.declared.seats.Seat.{Seat}
use Rattle.viewers.specs.Screen.{IsScreen, ScreenSeen, area_in, area_of, has, user_width, viewer_at}
use Rattle.viewers.specs.Tracks.{Covers, bottom, holder, seat_index, rows, seat_at, top, viewer_in}
use Rattle.viewers.specs.Viewers.{AreRising, AreViewers, ViewersSeen, numbers, seated, times}
use Rattle.viewers.proofs.Covering.{row_there}
use Rattle.viewers.proofs.Numbers.{none_lower}
use Rattle.viewers.proofs.Rows.{holder_there}
use Rattle.viewers.proofs.Seating.{has_times}
use Rattle.char_files.specs.declared.name.Anchor.{Anchor}
use Rattle.texts.specs.TextState.{TextState, shown_of}
use Rattle.machine.specs.Windows.{bytes_shown, first_line, position_in}
use Rattle.desk_windows.specs.Windows.{WindowSeen, width_of}

-- numbers that rise stand there once
pub times_once : (from below v : ℕ) (xs : List ℕ) → AreRising from xs below → times v xs ≤ 1
times_once from below v [] rising = omega arith
times_once from below v (x ∷ xs) rising = by_test (times_once (suc x) below v xs rising.1) (eqb x v) refl
  where
    by_test : times v xs ≤ 1 → (b : Bool) → eqb x v ≡ b → cond b 1 0 + times v xs ≤ 1
    by_test more true is =
        let e = eqb-true x v is in
        let none = none_lower (suc x) below v xs rising.1 (omega (arith, e)) in omega (arith, none)
    by_test more false is = omega (arith, more)

-- a seat's viewer is among the numbers
seat_times : (seats : List Seat) (i : ℕ) → i < length seats → 0 < times (seat_at seats i).number (seated seats)
seat_times [] i lt = absurd (omega (arith, lt))
seat_times (s ∷ rest) zero lt =
    let same : ◌≡◌ {A = ℕ} (cond (eqb s.number s.number) 1 0) 1 = ap (λ (b : Bool). cond b 1 0) (eq-eqb s.number s.number refl) in
    omega (arith, same)
seat_times (s ∷ rest) (suc i) lt =
    let more = seat_times rest i (omega (arith, lt)) in omega (arith, more)

-- a seat is found by its number, where that stands once
place_there : (seats : List Seat) (i : ℕ) → i < length seats → times (seat_at seats i).number (seated seats) ≤ 1
    → seat_index seats (seat_at seats i).number ≡ i
place_there [] i lt once = absurd (omega (arith, lt))
place_there (s ∷ rest) zero lt once =
    ap (λ (b : Bool). cond b 0 (suc (seat_index rest s.number))) (eq-eqb s.number s.number refl)
place_there (s ∷ rest) (suc i) lt once =
    by_test (place_there rest i (omega (arith, lt))) (eqb s.number (seat_at rest i).number) once
  where
    by_test : (times (seat_at rest i).number (seated rest) ≤ 1 → seat_index rest (seat_at rest i).number ≡ i)
        → (b : Bool) → cond b 1 0 + times (seat_at rest i).number (seated rest) ≤ 1
        → cond b 0 (suc (seat_index rest (seat_at rest i).number)) ≡ suc i
    by_test more true once = let some = seat_times rest i (omega (arith, lt)) in absurd (omega (arith, once, some))
    by_test more false once = ap suc (more (omega (arith, once)))

-- a row lies in the seat that holds it
held : (seats : List Seat) (row : ℕ) → row < rows seats
    → (top seats (holder seats row) ≤ row) × (row < bottom seats (holder seats row))
held [] row lt = absurd (omega (arith, lt))
held (s ∷ rest) row lt = by_test (held rest (row - s.height)) (nat_lt row s.height) refl
  where
    by_test : (row - s.height < rows rest → (top rest (holder rest (row - s.height)) ≤ row - s.height)
        × (row - s.height < bottom rest (holder rest (row - s.height))))
        → (b : Bool) → nat_lt row s.height ≡ b
        → (top (s ∷ rest) (cond b 0 (suc (holder rest (row - s.height)))) ≤ row)
        × (row < bottom (s ∷ rest) (cond b 0 (suc (holder rest (row - s.height)))))
    by_test more true is = let in_it = ltb-true row s.height is in (omega arith, omega (arith, in_it))
    by_test more false is =
        let out = ltb-false row s.height is in
        let e = more (omega (arith, lt, out)) in let above = e.0 in let below = e.1 in
        (omega (arith, above, out), omega (arith, below, out))

-- the viewer that has a row of a track has it among its own
pub row_in_seat : (height : ℕ) (seats : List Seat) (row v : ℕ) → Covers height seats → row < height → times v (seated seats) ≤ 1
    → viewer_in seats row ≡ Some v
    → (has seats v ≡ true) × (top seats (seat_index seats v) ≤ row) × (row < bottom seats (seat_index seats v))
row_in_seat height [] row v covers lt once is = cc
row_in_seat height (s ∷ rest) row v covers lt once is = elim (row_there height row (s ∷ rest) covers lt) [
  | inl none ↦ (let n = ap length none in absurd (omega (arith, n)))
  | inr there ↦ (
      let i = holder (s ∷ rest) row in
      let number : (seat_at (s ∷ rest) (holder (s ∷ rest) row)).number ≡ v = same_Some (seat_at (s ∷ rest) (holder (s ∷ rest) row)).number v is in
      let in_list = holder_there (s ∷ rest) row there in
      let at : seat_index (s ∷ rest) v ≡ holder (s ∷ rest) row =
      subst (λ (n : ℕ). seat_index (s ∷ rest) n ≡ holder (s ∷ rest) row) number
      (place_there (s ∷ rest) (holder (s ∷ rest) row) in_list
      (subst (λ (n : ℕ). times n (seated (s ∷ rest)) ≤ 1) (sym number) once)) in
      let in_it = held (s ∷ rest) row there in (
        lt-ltb (seat_index (s ∷ rest) v) (length (s ∷ rest)) (omega (arith, at, in_list)),
        subst (λ (n : ℕ). top (s ∷ rest) n ≤ row) (sym at) in_it.0,
        subst (λ (n : ℕ). row < bottom (s ∷ rest) n) (sym at) in_it.1,
      ))
]

-- the cell is one of this viewer's, whose area is as wide as its track
pub record HasCell (t : ScreenSeen) (v col row : ℕ) (a : Area) : Type 0 where
  pub left : a.col ≤ col
  pub right : col < a.col + a.width
  pub above : a.top ≤ row
  pub below : row < a.top + a.height
  pub track : ((has t.user v ≡ true) × (a.width ≡ width_of t.width User))
      ⊎ ((has t.system v ≡ true) × (a.width ≡ width_of t.width System))

-- the viewer at a cell has that cell
cell_in : (t : ScreenSeen) (col row v : ℕ) (a : Area) → IsScreen t → times v (seated t.user) + times v (seated t.system) ≤ 1
    → row < t.height → viewer_at t col row ≡ Some v → area_of t v ≡ Some a → HasCell t v col row a
cell_in t col row v a divided once lt at is =
    by_column (nat_lt col (user_width t.width)) (nat_lt col t.width) refl refl at
  where
    by_column : (b d : Bool) → nat_lt col (user_width t.width) ≡ b → nat_lt col t.width ≡ d
        → cond b (viewer_in t.user row) (cond d (viewer_in t.system row) None) ≡ Some v → HasCell t v col row a
    by_column true d user wide at =
        let held = row_in_seat t.height t.user row v divided.user_covered lt (omega (arith, once)) at in
        let area : area_in t.user v 0 (user_width t.width) ≡ a =
        same_Some (area_in t.user v 0 (user_width t.width)) a
        (sym (ap (λ (b : Bool). cond b (Some (area_in t.user v 0 (user_width t.width))) (cond (has t.system v) (Some (area_in t.system v (user_width t.width) (t.width - user_width t.width))) None)) held.0) ∙ is) in
        let inside = ltb-true col (user_width t.width) user in
        subst (λ (x : Area). HasCell t v col row x) area (record {
          left = omega arith;
          right = omega (arith, inside);
          above = held.1;
          below = held.2;
          track = inl (held.0, refl);
        })
    by_column false true user wide at =
        let held = row_in_seat t.height t.system row v divided.system_covered lt (omega (arith, once)) at in
        let some = has_times t.system v held.0 in
        let area : area_in t.system v (user_width t.width) (t.width - user_width t.width) ≡ a =
        by_user (has t.user v) refl held.0 is in
        let right = ltb-false col (user_width t.width) user in
        let inside = ltb-true col t.width wide in
        subst (λ (x : Area). HasCell t v col row x) area (record {
          left = omega (arith, right);
          right = omega (arith, right, inside);
          above = held.1;
          below = held.2;
          track = inr (held.0, refl);
        })
      where
        by_user : (b : Bool) → has t.user v ≡ b → has t.system v ≡ true
            → cond b (Some (area_in t.user v 0 (user_width t.width))) (cond (has t.system v) (Some (area_in t.system v (user_width t.width) (t.width - user_width t.width))) None) ≡ Some a
            → area_in t.system v (user_width t.width) (t.width - user_width t.width) ≡ a
        by_user true user system is =
            let one = has_times t.user v user in let other = has_times t.system v system in
            absurd (omega (arith, one, other, once))
        by_user false user system is =
            same_Some (area_in t.system v (user_width t.width) (t.width - user_width t.width)) a
            (sym (ap (λ (b : Bool). cond b (Some (area_in t.system v (user_width t.width) (t.width - user_width t.width))) None) system) ∙ is)
    by_column false false user wide at = cc

pub cell_of : (s : ViewersSeen WindowSeen) (col row v : ℕ) (a : Area) → AreViewers s → row < s.tracks.height
    → viewer_at s.tracks col row ≡ Some v → area_of s.tracks v ≡ Some a → HasCell s.tracks v col row a
cell_of s col row v a viewers lt at is =
    let all = viewers.once v in
    let few = times_once 1 s.next v (numbers s.contents) viewers.rising in
    cell_in s.tracks col row v a viewers.divided (omega (arith, all, few)) lt at is

-- a line ends in the text
end_within : (bytes : List ℕ) (k : ℕ) → end_of bytes k ≤ length bytes
end_within bytes k = by_test (nat_lt k (length (lines bytes))) refl
  where
    by_test : (b : Bool) → nat_lt k (length (lines bytes)) ≡ b → end_of bytes k ≤ length bytes
    by_test true is =
        let lt = ltb-true k (length (lines bytes)) is in
        omega (arith, extent-lines bytes, extent-next (lines bytes) k lt, extent-take (lines bytes) (suc k))
    by_test false is =
        let none : length (line_at bytes k) ≡ 0 = ap length (get_or_past (lines bytes) k [] (ltb-false k (length (lines bytes)) is)) in
        omega (arith, none)

-- a cell stands for a position of the text
pub position_within : (t : TextState) (anchor : Anchor) (width col row : ℕ)
    → position_in t anchor width col row ≤ length (shown_of t)
position_within t anchor width col row =
    let inside = end_within (bytes_shown t) (first_line t anchor + row) in
    let long : length (bytes_shown t) ≡ length (shown_of t) = length-map (shown_of t) (λ c. c.byte) in
    omega (arith, inside, long)
