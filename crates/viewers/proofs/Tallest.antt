-- The tallest seat.
use Rattle.std.proofs.Common.{◌≡◌, ℕ, zero, suc, ◌<◌, ◌≤◌, List, [], ◌∷◌, length, true, false, refl, ap, arith, leb, le-leb, Bool, cond, subst, sym, ◌∙◌}
use Rattle.std.proofs.lemmas.Bool.{lt-leb}
use Rattle.viewers.specs.declared.seats.Seat.{Seat}
use Rattle.viewers.specs.Tracks.{height_at, tallest}

-- it is one of the seats
pub tallest_there : (seats : List Seat) → 0 < length seats → tallest seats < length seats
tallest_there [] lt = absurd (omega (arith, lt))
tallest_there (s ∷ []) lt = omega arith
tallest_there (s ∷ t ∷ rest) lt =
    by_test (leb (height_at (t ∷ rest) (tallest (t ∷ rest))) s.height) (tallest_there (t ∷ rest) (omega arith))
  where
    by_test : (b : Bool) → tallest (t ∷ rest) < length (t ∷ rest)
        → cond b 0 (suc (tallest (t ∷ rest))) < length (s ∷ t ∷ rest)
    by_test true lt = omega arith
    by_test false lt = omega (arith, lt)

-- it is the one that is taller than those above it, and as tall as all others at least
pub tallest_is : (seats : List Seat) (i : ℕ) → i < length seats
    → ((k : ℕ) → k < i → height_at seats k < height_at seats i)
    → ((k : ℕ) → k < length seats → height_at seats k ≤ height_at seats i) → tallest seats ≡ i
tallest_is [] i lt above all = absurd (omega (arith, lt))
tallest_is (s ∷ []) zero lt above all = refl
tallest_is (s ∷ []) (suc i) lt above all = absurd (omega (arith, lt))
tallest_is (s ∷ t ∷ rest) zero lt above all =
    let there = tallest_there (t ∷ rest) (omega arith) in
    let low = all (suc (tallest (t ∷ rest))) (omega (arith, there)) in
    ap (λ b. cond b 0 (suc (tallest (t ∷ rest)))) (le-leb (height_at (t ∷ rest) (tallest (t ∷ rest))) s.height low)
tallest_is (s ∷ t ∷ rest) (suc i) lt above all =
    let e = tallest_is (t ∷ rest) i (omega (arith, lt)) (λ k less. above (suc k) (omega (arith, less)))
    (λ k less. all (suc k) (omega (arith, less))) in
    let low = above 0 (omega arith) in
    let higher = subst (λ k. s.height < height_at (t ∷ rest) k) (sym e) low in
    ap (λ b. cond b 0 (suc (tallest (t ∷ rest)))) (lt-leb (height_at (t ∷ rest) (tallest (t ∷ rest))) s.height higher)
    ∙ ap suc e
