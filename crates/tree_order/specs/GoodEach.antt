-- What makes a set of operations good, of one operation each.
use Rattle.std.specs.Prelude.{◌≡◌, ℕ, ◌<◌, List, map, All, Any}
use Rattle.char_files.specs.CharName.{CharName}
use Rattle.operations.specs.Operation.{Operation, Mentions, Begins}
use Rattle.tree_order.specs.Good.{IsPredecessor, IsCauseOf, file_before}
use Rattle.tree_order.specs.Tree.{IsChar}

-- if a and b have one identity, they are one operation
abbrev pub Agree : Operation → Operation → Type 0
Agree a b = a.site ≡ b.site → a.seq ≡ b.seq → a ≡ b

-- no operation differs from a under its identity
abbrev pub AgreesWithAll : List Operation → Operation → Type 0
AgreesWithAll ops a = All (Agree a) ops

-- the predecessor is held, unless the operation is its site's first
abbrev pub HasPredecessor : List Operation → Operation → Type 0
HasPredecessor ops op = 1 < op.seq → Any (λ p. IsPredecessor p op) ops

-- the names that are mentioned are characters
abbrev pub MentionsCharacters : List Operation → Operation → Type 0
MentionsCharacters ops op = (name : CharName) → Mentions op name → IsChar ops name

-- an Insert begins where its site's file ended before it
abbrev pub BeginsAtEnd : List Operation → Operation → Type 0
BeginsAtEnd ops op = Begins op.kind (file_before ops op.site op.seq)

-- own names that are mentioned stand below this end of the site's file
abbrev pub OwnNamesBelow : Operation → ℕ → Type 0
OwnNamesBelow op end = (name : CharName) → Mentions op name → name.site ≡ op.site → name.off < end

-- own names that are mentioned stand in the site's file before the operation
abbrev pub OwnNamesAreEarlier : List Operation → Operation → Type 0
OwnNamesAreEarlier ops op = OwnNamesBelow op (file_before ops op.site op.seq)

-- if p is a cause of op, the stamp of op is the greater one
abbrev pub IsAbove : Operation → Operation → Type 0
IsAbove op p = IsCauseOf p op → p.stamp < op.stamp

-- the stamp is greater than those of the causes
abbrev pub IsAboveEachCause : List Operation → Operation → Type 0
IsAboveEachCause ops op = All (IsAbove op) ops

-- for each operation how long its site's file is before it
abbrev pub file_starts : List Operation → List ℕ
file_starts ops = map (λ op. file_before ops op.site op.seq) ops
