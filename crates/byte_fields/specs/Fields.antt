-- The fields that messages and files are made of: how a number is spelled, what is read from the left, and what is
-- appended. Each function that reads gives the value that the front of the bytes spells, and the bytes after it.
use Rattle.std.specs.Prelude.{◌≡◌, ℕ, nat_lt, ◌==◌, if◌then◌else◌, List, [], ◌∷◌, ◌++◌, length, take, drop}
use Rattle.std.specs.Prelude.{Option, Some, None, Result, Ok, Err}
use Rattle.std.specs.Int.{Width, byte_len, from_be_bytes, to_be_bytes}

-- a number in as many bytes as its width has, the highest first
unfoldable pub number_spelling : Width → ℕ → List ℕ
number_spelling w n = to_be_bytes w n

infixl 10 ◌>>=◌
-- the next step, where this one found a value
abbrev pub ◌>>=◌ : {A B : Type 0} → Option A → (A → Option B) → Option B
None >>= f = None
(Some x) >>= f = f x

-- what a function found, seen by view, is what reading finds
abbrev pub Finds : {X Y : Type 0} → (X → Y) → Option X → Option Y → Type 0
Finds view None read = read ≡ None
Finds view (Some x) read = read ≡ Some (view x)

-- so many bytes
abbrev pub stretch_at : ℕ → List ℕ → Option (List ℕ × List ℕ)
stretch_at n bytes = if nat_lt (length bytes) n then None else Some (take n bytes, drop n bytes)

-- a number of this width, the highest byte first
abbrev pub number_at : Width → List ℕ → Option (ℕ × List ℕ)
number_at w bytes =
    if nat_lt (length bytes) (byte_len w) then None
    else Some (from_be_bytes w (take (byte_len w) bytes), drop (byte_len w) bytes)

-- a number from 1 on
unfoldable pub positive_at : Width → List ℕ → Option (ℕ × List ℕ)
positive_at w bytes = do
  n ← number_at w bytes
  if n.0 == 0 then None else Some n

-- one byte
abbrev pub byte_at : List ℕ → Option (ℕ × List ℕ)
byte_at [] = None
byte_at (b ∷ rest) = Some (b, rest)

-- the bytes were appended, or memory was refused, and perhaps some bytes stand at the end
abbrev pub Appends : {E : Type 0} → Result (Unit {0}) E → List ℕ → List ℕ → List ℕ → Type 0
Appends (Ok done) old new bytes = new ≡ old ++ bytes
Appends (Err refused) old new bytes = take (length old) new ≡ old
