-- The numbers of packed histories: in sevens of bits, and as steps from a number that is known.
use Rattle.std.specs.Prelude.{ℕ, zero, suc, ◌+◌, ◌-◌, ◌*◌, ◌/◌, ◌%◌, ◌^◌, nat_lt, nat_le, ◌==◌}
use Rattle.std.specs.Prelude.{if◌then◌else◌, List, [], ◌∷◌, Option, Some, None}
use Rattle.byte_fields.specs.Fields.{◌>>=◌, byte_at}

-- a number in so many sevens of bits at most: the lowest first, and 128 on each after which more follow
unfoldable pub sevens_within : (fuel n : ℕ) → List ℕ
sevens_within zero n = []
sevens_within (suc more) n = if nat_lt n 128 then n ∷ [] else (n % 128 + 128) ∷ sevens_within more (n / 128)

-- a number below 2 ^ 49, in 1 to 7 bytes
unfoldable pub sevens : ℕ → List ℕ
sevens n = sevens_within 7 n

-- such a number, of which the last byte isn't 0 unless it is the only one
unfoldable pub sevens_within_at : ℕ → List ℕ → Option (ℕ × List ℕ)
sevens_within_at zero bytes = None
sevens_within_at (suc more) bytes = do
  low ← byte_at bytes
  if nat_lt low.0 128 then Some low
      else sevens_within_at more low.1 >>= λ high.
      if high.0 == 0 then None else Some (128 * high.0 + (low.0 - 128), high.1)

-- a number in 1 to 7 bytes
unfoldable pub sevens_at : List ℕ → Option (ℕ × List ℕ)
sevens_at bytes = sevens_within_at 7 bytes

-- what a step is spelled by: twice its length if it goes up, and one less if it goes down
abbrev pub step_number : (from to : ℕ) → ℕ
step_number from to = if nat_le from to then 2 * (to - from) else 2 * (from - to) - 1

-- a number, as the step to it from one that is known
unfoldable pub step_spelling : (from to : ℕ) → List ℕ
step_spelling from to = sevens (step_number from to)

-- where the step of this number leads; nowhere below 0, and not to 2 ^ 32 or above
abbrev pub stepped : (from n : ℕ) → Option ℕ
stepped from n =
    if n % 2 == 0 then (if nat_lt (from + n / 2) (2 ^ 32) then Some (from + n / 2) else None)
    else (if nat_le (n / 2 + 1) from then Some (from - (n / 2 + 1)) else None)

-- a number below 2 ^ 32 that is told by the step to it
unfoldable pub step_at : ℕ → List ℕ → Option (ℕ × List ℕ)
step_at from bytes = do
  step ← sevens_at bytes
  to ← stepped from step.0
  Some (to, step.1)
