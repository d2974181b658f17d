-- A hash's 32 bytes, as two halves, each with the highest byte first.
use Rattle.std.specs.Prelude.{◌≡◌, ℕ, ◌+◌, ◌*◌, ◌/◌, ◌%◌, ◌^◌, List, ◌++◌, take, drop}
use Rattle.std.specs.Int.{w128, from_be_bytes, to_be_bytes}

-- the bytes of a number
abbrev pub hash_bytes : ℕ → List ℕ
hash_bytes n = to_be_bytes w128 (n / 2 ^ 128) ++ to_be_bytes w128 (n % 2 ^ 128)

-- the number of 32 bytes
abbrev pub hash_of : List ℕ → ℕ
hash_of bytes = from_be_bytes w128 (take 16 bytes) * 2 ^ 128 + from_be_bytes w128 (drop 16 bytes)

-- a hash: it is the number of its bytes
abbrev pub IsHash : ℕ → Type 0
IsHash n = hash_of (hash_bytes n) ≡ n
