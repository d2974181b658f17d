-- How many more pieces take no memory: as many as the ring and the index have room for.
use Rattle.std.proofs.Common.{ℕ, ◌+◌, ◌-◌, ◌<◌, ◌≤◌, arith}
use Rattle.std.specs.Prelude.{min}
use Rattle.std.proofs.Math.Nat.{min-le_left, min-le_right, le-min}

-- one more may go into both
pub in_both : (a b : ℕ) → 0 < min a b → (0 < a) × (0 < b)
in_both a b some = (omega (arith, some, min-le_left a b), omega (arith, some, min-le_right a b))

-- and takes room for one of each at most
pub one_less : (a b a' b' : ℕ) → a ≤ a' + 1 → b ≤ b' + 1 → min a b ≤ min a' b' + 1
one_less a b a' b' l r =
    let less : min a b - 1 ≤ min a' b' =
    le-min (omega (arith, l, min-le_left a b)) (omega (arith, r, min-le_right a b)) in
    omega (arith, less)
