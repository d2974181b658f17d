-- The order of the characters of a set of operations.
use Rattle.std.specs.Prelude.{◌≡◌, ◌≢◌, ℕ, ◌<◌, ◌⊎◌, ◌↔◌, true, List, ◌∷◌, ◌++◌, Some, Contains, AllPairs}
use Rattle.std.specs.Prelude.{slice_get}
use Rattle.looks.specs.Key.{is_below}
use Rattle.char_files.specs.CharName.{CharName}
use Rattle.operations.specs.Operation.{Operation, key_of}
use Rattle.tree_order.specs.Tree.{IsChar, IsInsertOf, IsPath, IsProperPrefix}

-- the key of c is greater than that of d; a character's key is its Insert's
abbrev pub HasGreaterKey : List Operation → CharName → CharName → Type 0
HasGreaterKey ops c d =
    (i j : Operation) × IsInsertOf ops c i × IsInsertOf ops d j × (is_below (key_of j) (key_of i) ≡ true)

-- where the two paths first differ, the key on p's side is greater
abbrev pub TurnsBefore : List Operation → List CharName → List CharName → Type 0
TurnsBefore ops p q =
    (common : List CharName) × (c d : CharName) × (p' q' : List CharName)
    × (p ≡ common ++ c ∷ p') × (q ≡ common ++ d ∷ q')
    × (c ≢ d) × HasGreaterKey ops c d

-- c stands before d: its path is a proper prefix of d's, or turns before it
abbrev pub Before : List Operation → CharName → CharName → Type 0
Before ops c d =
    (p q : List CharName) × IsPath ops c p × IsPath ops d q × (IsProperPrefix p q ⊎ TurnsBefore ops p q)

-- c stands before d in the list
abbrev pub IsBeforeIn : List CharName → CharName → CharName → Type 0
IsBeforeIn order c d = (i j : ℕ) × (i < j) × (slice_get order i ≡ Some c) × (slice_get order j ≡ Some d)

-- the list that has each character once, and in which c stands before d exactly when c is before d
pub record IsOrder (ops : List Operation) (order : List CharName) : Type 0 where
  pub each : (c : CharName) → Contains order c ↔ IsChar ops c
  pub once : AllPairs (λ c d. c ≢ d) order
  pub before : (c d : CharName) → IsBeforeIn order c d ↔ Before ops c d
