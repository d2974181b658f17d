use Rattle.std.proofs.Common.{ℕ, ◌<◌, ◌≤◌, length}
use Rattle.viewers.specs.Tracks.{height_at}
use Rattle.viewers.proofs.seats.tallest.Given as goal

-- of the seats so far the one is the tallest, and those above it are lower
abbrev pub invariant-loop-index : goal.invariant-loop-index
invariant-loop-index l = (l.best < l.index) × (0 < length l.seats → l.best < length l.seats)
    × ((k : ℕ) → k < l.best → height_at l.seats k < height_at l.seats l.best)
    × ((k : ℕ) → k < l.index → height_at l.seats k ≤ height_at l.seats l.best)
