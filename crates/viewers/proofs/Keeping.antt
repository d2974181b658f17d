-- Where a viewer stands in a track, sought seat by seat, and what leaves it there.
use Rattle.std.proofs.Common.{◌≡◌, ◌≢◌, ℕ, zero, suc, ◌+◌, ◌-◌, ◌<◌, ◌≤◌, List, [], ◌∷◌, length, Bool, true, false, cond, eqb, eqb-true, ltb, refl, sym, ap, ◌∙◌, subst, arith, Option, Some, None}
use Rattle.std.specs.Prelude.{option_map}
use Rattle.std.specs.List.{insert, remove}
use Rattle.std.proofs.Math.Dec.{leb-suc-suc}
use Rattle.std.proofs.Math.Numerals.{add-one}
use Rattle.std.proofs.lemmas.Bool.{lt-ltb}
use Rattle.viewers.specs.declared.screen.Area.{Area}
use Rattle.viewers.specs.declared.seats.Seat.{Seat}
use Rattle.viewers.specs.Screen.{ScreenSeen, area_in, area_of, has, user_width}
use Rattle.viewers.specs.Tracks.{bottom, closed, cut_row, divided, heir, height_at, moved, seat_index, seat_at, top, with_height}
use Rattle.viewers.proofs.Rows.{next_top}

-- the rows of a seat are before
abbrev pub shifted : ℕ → Option (ℕ × ℕ) → Option (ℕ × ℕ)
shifted h found = option_map (λ r. (h + r.0, r.1)) found

-- a viewer's first row and how many it has, where it has a seat
abbrev pub found : List Seat → ℕ → Option (ℕ × ℕ)
found [] w = None
found (s ∷ rest) w = cond (eqb s.number w) (Some (0, s.height)) (shifted s.height (found rest w))

-- the same by the index of its seat
abbrev at_place : List Seat → ℕ → Option (ℕ × ℕ)
at_place seats w = cond (has seats w) (Some (top seats (seat_index seats w), height_at seats (seat_index seats w))) None

shifted_place : (s : Seat) (rest : List Seat) (w : ℕ) (b : Bool)
    → shifted s.height (cond b (Some (top rest (seat_index rest w), height_at rest (seat_index rest w))) None)
    ≡ cond b (Some (top (s ∷ rest) (suc (seat_index rest w)), height_at (s ∷ rest) (suc (seat_index rest w)))) None
shifted_place s rest w true = refl
shifted_place s rest w false = refl

found_place : (seats : List Seat) (w : ℕ) → found seats w ≡ at_place seats w
found_place [] w = refl
found_place (s ∷ rest) w = by_test (eqb s.number w) (found_place rest w)
  where
    by_test : (b : Bool) → found rest w ≡ at_place rest w
        → cond b (Some (0, s.height)) (shifted s.height (found rest w))
        ≡ cond (ltb (cond b 0 (suc (seat_index rest w))) (suc (length rest)))
        (Some (top (s ∷ rest) (cond b 0 (suc (seat_index rest w))), height_at (s ∷ rest) (cond b 0 (suc (seat_index rest w))))) None
    by_test true more =
        sym (ap (λ b. cond b (Some (0, s.height)) None) (lt-ltb 0 (suc (length rest)) (omega arith)))
    by_test false more =
        ap (shifted s.height) more ∙ shifted_place s rest w (has rest w)
        ∙ sym (ap (λ b. cond b (Some (top (s ∷ rest) (suc (seat_index rest w)), height_at (s ∷ rest) (suc (seat_index rest w)))) None)
        (leb-suc-suc (suc (seat_index rest w)) (length rest)))

-- the cells of a viewer follow from that
abbrev as_area : Option (ℕ × ℕ) → (col width : ℕ) → Option Area → Option Area
as_area None col width other = other
as_area (Some r) col width other = Some (record { col = col; top = r.0; width = width; height = r.1 })

area_place : (seats : List Seat) (w col width : ℕ) (other : Option Area) (b : Bool)
    → as_area (cond b (Some (top seats (seat_index seats w), height_at seats (seat_index seats w))) None) col width other
    ≡ cond b (Some (area_in seats w col width)) other
area_place seats w col width other true = refl
area_place seats w col width other false = refl

same_area : (old new : List Seat) (w col width : ℕ) (other : Option Area) → found new w ≡ found old w
    → ◌≡◌ {A = Option Area} (cond (has new w) (Some (area_in new w col width)) other) (cond (has old w) (Some (area_in old w col width)) other)
same_area old new w col width other same =
    sym (area_place new w col width other (has new w))
    ∙ ap (λ o. as_area o col width other) (sym (found_place new w) ∙ same ∙ found_place old w)
    ∙ area_place old w col width other (has old w)

pub user_area : (s : ScreenSeen) (seats : List Seat) (w : ℕ) → found seats w ≡ found s.user w
    → area_of (record s { user = seats }) w ≡ area_of s w
user_area s seats w same =
    same_area s.user seats w 0 (user_width s.width)
    (cond (has s.system w) (Some (area_in s.system w (user_width s.width) (s.width - user_width s.width))) None) same

pub system_area : (s : ScreenSeen) (seats : List Seat) (w : ℕ) → found seats w ≡ found s.system w
    → area_of (record s { system = seats }) w ≡ area_of s w
system_area s seats w same =
    ap (λ o. cond (has s.user w) (Some (area_in s.user w 0 (user_width s.width))) o)
    (same_area s.system seats w (user_width s.width) (s.width - user_width s.width) None same)

-- another viewer's seat is passed over
pub passed : (s : Seat) (rest : List Seat) (w : ℕ) → w ≢ s.number → found (s ∷ rest) w ≡ shifted s.height (found rest w)
passed s rest w apart = by_test (eqb s.number w) refl
  where
    by_test : (b : Bool) → eqb s.number w ≡ b
        → cond b (Some (0, s.height)) (shifted s.height (found rest w)) ≡ shifted s.height (found rest w)
    by_test true is = absurd (apart (sym (eqb-true s.number w is)))
    by_test false is = refl

-- two seats, one after the other, are as their sum
summed : (a b c : ℕ) (o : Option (ℕ × ℕ)) → a + b ≡ c → shifted a (shifted b o) ≡ shifted c o
summed a b c None e = refl
summed a b c (Some r) e = let sum : a + (b + r.0) ≡ c + r.0 = omega (arith, e) in ap (λ n. Some (n, r.1)) sum

-- a seat divided in two
split_found : (seats : List Seat) (i h : ℕ) (new : Seat) (w : ℕ) → i < length seats → h + new.height ≡ height_at seats i
    → w ≢ new.number → w ≢ (seat_at seats i).number
    → found (insert (with_height seats i h) (suc i) new) w ≡ found seats w
split_found [] i h new w lt e other apart = absurd (omega (arith, lt))
split_found (s ∷ rest) zero h new w lt e other apart =
    passed (record { number = s.number; height = h }) (new ∷ rest) w apart
    ∙ ap (shifted h) (passed new rest w other) ∙ summed h new.height s.height (found rest w) e
    ∙ sym (passed s rest w apart)
split_found (s ∷ rest) (suc i) h new w lt e other apart =
    ap (λ o. cond (eqb s.number w) (Some (0, s.height)) (shifted s.height o))
    (split_found rest i h new w (omega (arith, lt)) e other apart)

-- two seats joined
join_found : (seats : List Seat) (i h w : ℕ) → suc i < length seats → h ≡ height_at seats i + height_at seats (suc i)
    → w ≢ (seat_at seats i).number → w ≢ (seat_at seats (suc i)).number
    → found (remove (with_height seats i h) (suc i)) w ≡ found seats w
join_found [] i h w lt e first second = absurd (omega (arith, lt))
join_found (s ∷ []) i h w lt e first second = absurd (omega (arith, lt))
join_found (s ∷ t ∷ rest) zero h w lt e first second =
    passed (record { number = s.number; height = h }) rest w first
    ∙ sym (summed s.height t.height h (found rest w) (omega (arith, e)))
    ∙ sym (passed s (t ∷ rest) w first ∙ ap (shifted s.height) (passed t rest w second))
join_found (s ∷ t ∷ rest) (suc i) h w lt e first second =
    ap (λ o. cond (eqb s.number w) (Some (0, s.height)) (shifted s.height o))
    (join_found (t ∷ rest) i h w (omega (arith, lt)) e first second)

-- the border between two seats moved
border_found : (seats : List Seat) (i a b w : ℕ) → suc i < length seats
    → a + b ≡ height_at seats i + height_at seats (suc i) → w ≢ (seat_at seats i).number
    → w ≢ (seat_at seats (suc i)).number → found (with_height (with_height seats i a) (suc i) b) w ≡ found seats w
border_found [] i a b w lt e first second = absurd (omega (arith, lt))
border_found (s ∷ []) i a b w lt e first second = absurd (omega (arith, lt))
border_found (s ∷ t ∷ rest) zero a b w lt e first second =
    passed (record { number = s.number; height = a }) (record { number = t.number; height = b } ∷ rest) w first
    ∙ ap (shifted a) (passed (record { number = t.number; height = b }) rest w second)
    ∙ summed a b (s.height + t.height) (found rest w) e
    ∙ sym (summed s.height t.height (s.height + t.height) (found rest w) refl)
    ∙ sym (passed s (t ∷ rest) w first ∙ ap (shifted s.height) (passed t rest w second))
border_found (s ∷ t ∷ rest) (suc i) a b w lt e first second =
    ap (λ o. cond (eqb s.number w) (Some (0, s.height)) (shifted s.height o))
    (border_found (t ∷ rest) i a b w (omega (arith, lt)) e first second)

-- so all others are found where they were, as a viewer opens, as one closes, and as a top is moved
pub divided_found : (seats : List Seat) (v i row w : ℕ) → i < length seats → 4 ≤ height_at seats i → w ≢ v
    → w ≢ (seat_at seats i).number → found (divided seats v i row) w ≡ found seats w
divided_found seats v i row w lt four other apart =
    let new : Seat = record { number = v; height = bottom seats i - cut_row seats i row } in
    let less = cut_row seats i row - top seats i in
    let sum : less + (bottom seats i - cut_row seats i row) ≡ height_at seats i = omega (arith, four) in
    ap (λ k. found (insert (with_height seats i less) k new) w) (add-one i)
    ∙ split_found seats i less new w lt sum other apart

pub closed_found : (seats : List Seat) (i w : ℕ) → i < length seats → w ≢ (seat_at seats i).number
    → w ≢ (seat_at seats (heir i)).number → found (closed seats i) w ≡ found seats w
closed_found [] i w lt apart other = absurd (omega (arith, lt))
closed_found (s ∷ []) zero w lt apart other = sym (passed s [] w apart)
closed_found (s ∷ t ∷ rest) zero w lt apart other =
    passed (record { number = t.number; height = t.height + s.height }) rest w other
    ∙ sym (summed s.height t.height (t.height + s.height) (found rest w) (omega arith))
    ∙ sym (passed s (t ∷ rest) w apart ∙ ap (shifted s.height) (passed t rest w other))
closed_found (s ∷ rest) (suc i) w lt apart other =
    join_found (s ∷ rest) i (height_at (s ∷ rest) i + height_at (s ∷ rest) (suc i)) w lt refl other apart

pub moved_found : (seats : List Seat) (i row w : ℕ) → i < length seats → 0 < i → top seats (i - 1) + 2 ≤ row
    → row + 2 ≤ bottom seats i → w ≢ (seat_at seats i).number → w ≢ (seat_at seats (i - 1)).number
    → found (moved seats i row) w ≡ found seats w
moved_found seats zero row w lt some above below apart other = absurd (omega (arith, some))
moved_found seats (suc i) row w lt some above below apart other =
    let e : i ≡ suc i - 1 = omega arith in
    subst (λ k. top seats k + 2 ≤ row → w ≢ (seat_at seats k).number
    → found (with_height (with_height seats k (row - top seats k)) (suc i) (bottom seats (suc i) - row)) w ≡ found seats w)
    e (λ above other.
    let before = next_top seats i (record { number = 0; height = 0 }) (omega (arith, lt)) in
    border_found seats i (row - top seats i) (bottom seats (suc i) - row) w lt (omega (arith, before, above, below)) other apart)
    above other
