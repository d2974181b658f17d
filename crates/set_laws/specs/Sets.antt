-- Lists of operations as sets: parts, identities, unions, and the laws of unions.
use Rattle.std.specs.Prelude.{◌≡◌, ◌≢◌, ℕ, ◌<◌, ◌≤◌, ◌↔◌, List, ◌++◌, take, slice_get, Contains, Some}
use Rattle.operations.specs.Operation.{Operation}
use Rattle.tree_order.specs.Good.{Good, IsCauseOf}
use Rattle.tree_order.specs.Laws.{AreSameSet, SaysTheSame}
use Rattle.set_laws.specs.Fronts.{front_of, IsHeld}

-- each operation of the first is in the second
abbrev pub IsPartOf : List Operation → List Operation → Type 0
IsPartOf a b = (op : Operation) → Contains a op → Contains b op

-- seqs are counted from 1, and no identity has two operations
pub record AreIdentified (ops : List Operation) : Type 0 where
  pub counted : (op : Operation) → Contains ops op → 0 < op.seq
  pub unique :
      (a b : Operation) → Contains ops a → Contains ops b → a.site ≡ b.site → a.seq ≡ b.seq → a ≡ b

-- the union of two good sets in which no identity has two operations is good
abbrev pub UnionIsGood : List Operation → List Operation → Type 0
UnionIsGood a b = Good a → Good b → AreIdentified (a ++ b) → Good (a ++ b)

-- unions in another order, put together otherwise, or with themselves are the same sets
pub record UnionsAreSets (a b c : List Operation) : Type 0 where
  pub commutative : AreSameSet (a ++ b) (b ++ a)
  pub associative : AreSameSet ((a ++ b) ++ c) (a ++ (b ++ c))
  pub idempotent : AreSameSet a (a ++ a)

-- and good ones have one order and show one text
pub record UnionsShowSets (a b c : List Operation) : Type 0 where
  pub commutative : Good (a ++ b) → SaysTheSame (a ++ b) (b ++ a)
  pub associative : Good ((a ++ b) ++ c) → SaysTheSame ((a ++ b) ++ c) (a ++ (b ++ c))
  pub idempotent : Good a → SaysTheSame a (a ++ a)

-- the same front of each site
abbrev pub HaveEqualFronts : List Operation → List Operation → Type 0
HaveEqualFronts a b = (site : ℕ) → front_of a site ≡ front_of b site

-- a site's identities are held up to its front, and no others
abbrev pub AreHeldToTheFront : List Operation → Type 0
AreHeldToTheFront ops = (site seq : ℕ) → IsHeld ops site seq ↔ (0 < seq) × (seq ≤ front_of ops site)

-- of operations that b has, a has those up to its fronts
abbrev pub HasToTheFront : List Operation → List Operation → Type 0
HasToTheFront a b = (op : Operation) → Contains b op → Contains a op ↔ (op.seq ≤ front_of a op.site)

-- another operation of these has this one's identity
abbrev pub IsInConflict : List Operation → Operation → Type 0
IsInConflict ops op =
    (other : Operation) × Contains ops other × (other.site ≡ op.site) × (other.seq ≡ op.seq) × (other ≢ op)

-- the operations stand in an order that keeps causes: each first part of the list is good
abbrev pub KeepsCauses : List Operation → Type 0
KeepsCauses ops = (n : ℕ) → Good (take n ops)

-- the causes that an operation has among the others stand before it
abbrev pub HasCausesBefore : List Operation → Type 0
HasCausesBefore ops = (n : ℕ) (op p : Operation) → slice_get ops n ≡ Some op → Contains ops p → IsCauseOf p op
    → Contains (take n ops) p
