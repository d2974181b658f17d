-- Laws of packed lists of operations.
use Rattle.std.specs.Prelude.{◌≡◌, ℕ, List, [], ◌∷◌, ◌++◌}
use Rattle.operations.specs.Operation.{Operation}
use Rattle.packed.specs.Told.{Told, nothing_told, told, told_on}
use Rattle.packed.specs.Spelling.{packed_next, packed}
use Rattle.packed.specs.Reading.{CanBeNext}

-- each operation can be next after those before it, on this text
abbrev pub CanFollow : Told → (text : ℕ) → List Operation → Type 0
CanFollow told text [] = Unit {0}
CanFollow told text (op ∷ ops) = CanBeNext told text op × CanFollow (told_on told op) text ops

-- the operations of a history of this text
abbrev pub IsHistory : (text : ℕ) → List Operation → Type 0
IsHistory text ops = CanFollow nothing_told text ops

-- one operation more adds its bytes at the end, and tells more
abbrev pub AddsAtTheEnd : Type 0
AddsAtTheEnd =
    (ops : List Operation) (op : Operation)
    → (packed (ops ++ op ∷ []) ≡ packed ops ++ packed_next (told ops) op)
    × (told (ops ++ op ∷ []) ≡ told_on (told ops) op)

-- after one history, no operation's bytes begin another's
abbrev pub NextIsDetermined : Type 0
NextIsDetermined =
    (text : ℕ) (ops : List Operation) (a b : Operation) (x y : List ℕ) → IsHistory text ops
    → CanBeNext (told ops) text a → CanBeNext (told ops) text b
    → packed_next (told ops) a ++ x ≡ packed_next (told ops) b ++ y → (a ≡ b) × (x ≡ y)

-- a packed list that begins another is that of the first operations of it
abbrev pub BeginningsAreHistories : Type 0
BeginningsAreHistories =
    (text : ℕ) (ops all : List Operation) (rest : List ℕ) → IsHistory text ops → IsHistory text all
    → packed all ≡ packed ops ++ rest → (more : List Operation) × (all ≡ ops ++ more)

-- no two lists are packed alike
abbrev pub NoneArePackedAlike : Type 0
NoneArePackedAlike =
    (text : ℕ) (ops others : List Operation) → IsHistory text ops → IsHistory text others
    → packed ops ≡ packed others → ops ≡ others
