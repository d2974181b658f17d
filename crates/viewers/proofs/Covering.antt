-- Tracks that are covered.
use Rattle.std.proofs.Common.{◌≡◌, ℕ, ◌<◌, ◌≤◌, ◌⊎◌, List, [], ◌∷◌, length, zero, suc, ◌+◌, ◌-◌, ◌*◌, true, leb-true, refl, ap, subst, sym, inl, inr, arith}
use Rattle.viewers.specs.declared.seats.Seat.{Seat}
use Rattle.viewers.specs.Tracks.{AreTall, Covers, rows, top, bottom, height_at, with_height, moved, can_open, holder, divided, cut_row, opened, closed}
use Rattle.std.specs.List.{insert, remove}
use Rattle.viewers.proofs.Rows.{next_top, holder_there}

-- a blank track
pub blank : (height : ℕ) → Covers height []
blank height = record { tall = tt; whole = inl refl }

-- a row of the screen is a row of the track, unless this is blank
pub row_there : (height row : ℕ) (seats : List Seat) → Covers height seats → row < height
    → (seats ≡ []) ⊎ (row < rows seats)
row_there height row seats covers lt =
    elim covers.whole [ inl e ↦ inl e | inr e ↦ inr (omega (arith, lt, e)) ]

-- a track has no more rows than the screen
pub few_rows : (height : ℕ) (seats : List Seat) → Covers height seats → rows seats ≤ height
few_rows height seats covers =
    elim covers.whole [ inl e ↦ (let n = ap rows e in omega (arith, n)) | inr e ↦ omega (arith, e) ]

-- another height at a place changes the rows by it
pub rows_with : (seats : List Seat) (i h : ℕ) → i < length seats
    → rows (with_height seats i h) + height_at seats i ≡ rows seats + h
rows_with [] i h lt = absurd (omega (arith, lt))
rows_with (s ∷ rest) zero h lt = omega arith
rows_with (s ∷ rest) (suc i) h lt = let e = rows_with rest i h (omega (arith, lt)) in omega (arith, e)

pub tall_with : (seats : List Seat) (i h : ℕ) → AreTall seats → 2 ≤ h → AreTall (with_height seats i h)
tall_with [] i h tall le = tt
tall_with (s ∷ rest) zero h tall le = (le, tall.1)
tall_with (s ∷ rest) (suc i) h tall le = (tall.0, tall_with rest i h tall.1 le)

pub length_with : (seats : List Seat) (i h : ℕ) → length (with_height seats i h) ≡ length seats
length_with [] i h = refl
length_with (s ∷ rest) zero h = refl
length_with (s ∷ rest) (suc i) h = let e = length_with rest i h in omega (arith, e)

-- the seat below keeps its height
pub height_below : (seats : List Seat) (i h : ℕ) → height_at (with_height seats i h) (suc i) ≡ height_at seats (suc i)
height_below [] i h = refl
height_below (s ∷ rest) zero h = refl
height_below (s ∷ rest) (suc i) h = height_below rest i h

pub not_empty : (seats : List Seat) (i : ℕ) → i < length seats → seats ≡ [] → ⊥
not_empty seats i lt e = let n = ap length e in omega (arith, lt, n)

-- with a border between two seats moved, a track stays covered
pub moved_lower : (height i row : ℕ) (seats : List Seat) → Covers height seats → suc i < length seats
    → top seats i + 2 ≤ row → row + 2 ≤ bottom seats (suc i) → Covers height (with_height (with_height seats i (row - top seats i)) (suc i) (bottom seats (suc i) - row))
moved_lower height i row seats covers lt above below = record {
  tall = tall_with (with_height seats i (row - top seats i)) (suc i) (bottom seats (suc i) - row)
      (tall_with seats i (row - top seats i) covers.tall (omega (arith, above))) (omega (arith, below));
  whole = elim covers.whole [
    | inl e ↦ absurd (not_empty seats (suc i) lt e)
    | inr e ↦ inr (
        let before = next_top seats i (record { number = 0; height = 0 }) (omega (arith, lt)) in
        let first = rows_with seats i (row - top seats i) (omega (arith, lt)) in
        let long = length_with seats i (row - top seats i) in
        let second = rows_with (with_height seats i (row - top seats i)) (suc i) (bottom seats (suc i) - row) (omega (arith, lt, long)) in
        let same = height_below seats i (row - top seats i) in
        omega (arith, e, before, first, second, same, above, below))
  ];
}

pub moved_covers : (height i row : ℕ) (seats : List Seat) → Covers height seats → i < length seats → 0 < i
    → top seats (i - 1) + 2 ≤ row → row + 2 ≤ bottom seats i → Covers height (moved seats i row)
moved_covers height zero row seats covers lt some above below = absurd (omega (arith, some))
moved_covers height (suc i) row seats covers lt some above below =
    let e : i ≡ suc i - 1 = omega arith in
    subst (λ k. Covers height (with_height (with_height seats k (row - top seats k)) (suc i) (bottom seats (suc i) - row)))
    e (moved_lower height i row seats covers lt (subst (λ k. top seats k + 2 ≤ row) (sym e) above) below)

-- more seats leave fewer rows
pub room : (seats : List Seat) (i : ℕ) → AreTall seats → i < length seats → 4 ≤ height_at seats i
    → 2 * length seats + 2 ≤ rows seats
room [] i tall lt four = absurd (omega (arith, lt))
room (s ∷ rest) zero tall lt four = let e = least rest tall.1 in omega (arith, e, four)
  where
    least : (seats : List Seat) → AreTall seats → 2 * length seats ≤ rows seats
    least [] tall = omega arith
    least (s ∷ rest) tall = let e = least rest tall.1 in let t = tall.0 in omega (arith, e, t)
room (s ∷ rest) (suc i) tall lt four =
    let e = room rest i tall.1 (omega (arith, lt)) four in let t = tall.0 in omega (arith, e, t)

-- one more seat adds its rows
pub rows_insert : (seats : List Seat) (i : ℕ) (s : Seat) → rows (insert seats i s) ≡ rows seats + s.height
rows_insert [] zero s = omega arith
rows_insert [] (suc i) s = omega arith
rows_insert (t ∷ rest) zero s = omega arith
rows_insert (t ∷ rest) (suc i) s = let e = rows_insert rest i s in omega (arith, e)

pub tall_insert : (seats : List Seat) (i : ℕ) (s : Seat) → AreTall seats → 2 ≤ s.height → AreTall (insert seats i s)
tall_insert [] zero s tall le = (le, tt)
tall_insert [] (suc i) s tall le = (le, tt)
tall_insert (t ∷ rest) zero s tall le = (le, tall)
tall_insert (t ∷ rest) (suc i) s tall le = (tall.0, tall_insert rest i s tall.1 le)

-- with a seat divided, a track stays covered
pub divided_covers : (height v i row : ℕ) (seats : List Seat) → Covers height seats → i < length seats
    → 4 ≤ height_at seats i → Covers height (divided seats v i row)
divided_covers height v i row seats covers lt four = record {
  tall = tall_insert (with_height seats i (cut_row seats i row - top seats i)) (i + 1) (record { number = v; height = bottom seats i - cut_row seats i row }) (tall_with seats i (cut_row seats i row - top seats i) covers.tall
      (omega (arith, four))) (omega (arith, four));
  whole = elim covers.whole [
    | inl e ↦ absurd (not_empty seats i lt e)
    | inr e ↦ inr (
        let first = rows_with seats i (cut_row seats i row - top seats i) lt in
        let more = rows_insert (with_height seats i (cut_row seats i row - top seats i)) (i + 1) (record { number = v; height = bottom seats i - cut_row seats i row }) in
        omega (arith, e, first, more, four))
  ];
}

-- the first viewer covers the track
pub one_covers : (height v : ℕ) → 8 ≤ height → Covers height (record { number = v; height = height } ∷ [])
one_covers height v le = record { tall = (omega (arith, le), tt); whole = inr (omega arith) }

-- where a viewer may open, there is a place for its seat
pub room_for : (height i : ℕ) (seats : List Seat) → Covers height seats → height ≤ 100 → i < length seats
    → 4 ≤ height_at seats i → length seats < 50
room_for height i seats covers low lt four =
    let r = room seats i covers.tall lt four in let f = few_rows height seats covers in omega (arith, r, f, low)

-- a viewer that isn't the first one divides the seat that has the row
pub opened_there : (height v row : ℕ) (seats : List Seat) → 0 < length seats
    → opened height seats v row ≡ divided seats v (holder seats row) row
opened_there height v row [] lt = absurd (omega (arith, lt))
opened_there height v row (s ∷ rest) lt = refl

pub four_rows : (row : ℕ) (seats : List Seat) → 0 < length seats → can_open seats row ≡ true
    → 4 ≤ height_at seats (holder seats row)
four_rows row [] lt is = absurd (omega (arith, lt))
four_rows row (s ∷ rest) lt is = leb-true 4 (height_at (s ∷ rest) (holder (s ∷ rest) row)) is

pub opened_covers : (height v row : ℕ) (seats : List Seat) → Covers height seats → row < height → 0 < length seats
    → can_open seats row ≡ true → Covers height (divided seats v (holder seats row) row)
opened_covers height v row seats covers lt some is =
    elim covers.whole [
      | inl e ↦ absurd (not_empty seats 0 some e)
      | inr e ↦ divided_covers height v (holder seats row) row seats covers
          (holder_there seats row (omega (arith, lt, e))) (four_rows row seats some is)
    ]

pub room_to_open : (height row : ℕ) (seats : List Seat) → Covers height seats → height ≤ 100 → row < height
    → 0 < length seats → can_open seats row ≡ true → length seats < 50
room_to_open height row seats covers low lt some is =
    elim covers.whole [
      | inl e ↦ absurd (not_empty seats 0 some e)
      | inr e ↦ room_for height (holder seats row) seats covers low
          (holder_there seats row (omega (arith, lt, e))) (four_rows row seats some is)
    ]

-- one seat fewer takes its rows away
pub rows_remove : (seats : List Seat) (i : ℕ) → i < length seats
    → rows (remove seats i) + height_at seats i ≡ rows seats
rows_remove [] i lt = absurd (omega (arith, lt))
rows_remove (s ∷ rest) zero lt = omega arith
rows_remove (s ∷ rest) (suc i) lt = let e = rows_remove rest i (omega (arith, lt)) in omega (arith, e)

pub tall_remove : (seats : List Seat) (i : ℕ) → AreTall seats → AreTall (remove seats i)
tall_remove [] zero tall = tt
tall_remove [] (suc i) tall = tt
tall_remove (s ∷ rest) zero tall = tall.1
tall_remove (s ∷ rest) (suc i) tall = (tall.0, tall_remove rest i tall.1)

pub tall_at : (seats : List Seat) (i : ℕ) → AreTall seats → i < length seats → 2 ≤ height_at seats i
tall_at [] i tall lt = absurd (omega (arith, lt))
tall_at (s ∷ rest) zero tall lt = tall.0
tall_at (s ∷ rest) (suc i) tall lt = tall_at rest i tall.1 (omega (arith, lt))

-- with a viewer closed, a track stays covered
pub closed_covers : (height i : ℕ) (seats : List Seat) → Covers height seats → i < length seats
    → Covers height (closed seats i)
closed_covers height i [] covers lt = absurd (omega (arith, lt))
closed_covers height zero (s ∷ []) covers lt = record { tall = tt; whole = inl refl }
closed_covers height zero (s ∷ t ∷ rest) covers lt = record {
  tall = (let a = covers.tall.0 in omega (arith, a), covers.tall.1.1);
  whole = elim covers.whole [
    | inl e ↦ absurd (not_empty (s ∷ t ∷ rest) 0 lt e)
    | inr e ↦ inr (omega (arith, e))
  ];
}
closed_covers height (suc i) (s ∷ rest) covers lt = record {
  tall = tall_remove (with_height (s ∷ rest) i (height_at (s ∷ rest) i + height_at (s ∷ rest) (suc i))) (suc i)
      (tall_with (s ∷ rest) i (height_at (s ∷ rest) i + height_at (s ∷ rest) (suc i)) covers.tall
      (let a = tall_at (s ∷ rest) i covers.tall (omega (arith, lt)) in omega (arith, a)));
  whole = elim covers.whole [
    | inl e ↦ absurd (not_empty (s ∷ rest) (suc i) lt e)
    | inr e ↦ inr (
        let long = length_with (s ∷ rest) i (height_at (s ∷ rest) i + height_at (s ∷ rest) (suc i)) in
        let first = rows_with (s ∷ rest) i (height_at (s ∷ rest) i + height_at (s ∷ rest) (suc i)) (omega (arith, lt)) in
        let same = height_below (s ∷ rest) i (height_at (s ∷ rest) i + height_at (s ∷ rest) (suc i)) in
        let gone = rows_remove (with_height (s ∷ rest) i (height_at (s ∷ rest) i + height_at (s ∷ rest) (suc i))) (suc i)
        (omega (arith, lt, long)) in
        omega (arith, e, first, same, gone))
  ];
}
