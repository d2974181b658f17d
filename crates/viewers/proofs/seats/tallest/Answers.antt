use Rattle.std.proofs.Common.{◌≡◌, ℕ, zero, suc, ◌<◌, ◌≤◌, List, [], ◌∷◌, length, sym, arith, refl}
use Rattle.viewers.specs.declared.seats.Seat.{Seat}
use Rattle.viewers.specs.Tracks.{height_at, tallest}
use Rattle.viewers.proofs.Tallest.{tallest_is}
use Rattle.viewers.proofs.seats.tallest.Goals as goal

is_tallest : (seats : List Seat) (i n : ℕ) → (0 < length seats → i < length seats) → length seats ≤ n
    → ((k : ℕ) → k < i → height_at seats k < height_at seats i)
    → ((k : ℕ) → k < n → height_at seats k ≤ height_at seats i) → i ≡ tallest seats
is_tallest [] zero n there end above all = refl
is_tallest [] (suc i) n there end above all = let less = above 0 (omega arith) in absurd (omega (arith, less))
is_tallest (s ∷ rest) i n there end above all = sym (tallest_is (s ∷ rest) i (there (omega arith)) above
    (λ k lt. all k (omega (arith, lt, end))))

pub returns-clause-value : goal.returns-clause-value
returns-clause-value c =
    let kept = c.loop-index.invariant in
    is_tallest c.args.seats.now c.loop-index.best c.loop-index.index kept.1 (omega arith) kept.2 kept.3
