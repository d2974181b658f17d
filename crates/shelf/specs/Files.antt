-- Files by their names, where a shelf tells them.
use Rattle.std.specs.Prelude.{◌≡◌, ◌≢◌, ℕ, ◌-◌, ◌^◌, ◌<◌, ◌⊎◌, List, ◌∷◌, Option, Some, None, IsSome, ⊤}
use Rattle.std.specs.Option.{option_map}

-- the bytes of the file of each name; none where there is no such file
abbrev pub Files : Type 0
Files = List ℕ → Option (List ℕ)

-- a file that is told has these bytes
abbrev pub HasFile : Option Files → (name bytes : List ℕ) → Type 0
HasFile None name bytes = ⊤
HasFile (Some files) name bytes = files name ≡ Some bytes

-- there is a file of this name, where files are told
abbrev pub IsThere : Option Files → (name : List ℕ) → Type 0
IsThere None name = ⊤
IsThere (Some files) name = IsSome (files name)

-- no file changes, and what was told is told
abbrev pub SameFiles : (old new : Option Files) → Type 0
SameFiles None None = ⊤
SameFiles None (Some new) = ⊥
SameFiles (Some old) None = ⊥
SameFiles (Some old) (Some new) = (name : List ℕ) → new name ≡ old name

-- no file of another name changes, and what was told is told
abbrev pub OthersStay : (old new : Option Files) → (name : List ℕ) → Type 0
OthersStay None None name = ⊤
OthersStay None (Some new) name = ⊥
OthersStay (Some old) None name = ⊥
OthersStay (Some old) (Some new) name = (other : List ℕ) → other ≢ name → new other ≡ old other

-- the greatest count of failures, at which it stays
abbrev pub MAX_FAULTS : ℕ
MAX_FAULTS = 2 ^ 64 - 1

-- a failure was counted, or the count had come to its greatest and stays there
abbrev pub Counts : (old new : ℕ) → Type 0
Counts old new = (old < new) ⊎ ((old ≡ MAX_FAULTS) × (new ≡ MAX_FAULTS))

-- a write that a shelf was asked for: the name, and the bytes
abbrev pub Write : Type 0
Write = List ℕ × List ℕ

-- one more write was asked for, after these, of which the last one stands first
abbrev pub with_write : (name bytes : List ℕ) → Option (List Write) → Option (List Write)
with_write name bytes = option_map (λ writes. (name, bytes) ∷ writes)
