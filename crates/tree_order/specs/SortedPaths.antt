-- Characters in their order, each with its path.
use Rattle.std.specs.Prelude.{◌⊎◌, ◌↔◌, List, map, All, AllPairs, Contains}
use Rattle.char_files.specs.CharName.{CharName}
use Rattle.operations.specs.Operation.{Operation}
use Rattle.tree_order.specs.declared.path_order.Path.{Path}
use Rattle.tree_order.specs.Tree.{IsPath}
use Rattle.tree_order.specs.Order.{Before}

-- the characters of the paths
abbrev pub names_of_paths : List Path → List CharName
names_of_paths paths = map (λ p. p.of) paths

-- each path is its character's, and each character stands before those after it
pub record AreSortedPaths (ops : List Operation) (paths : List Path) : Type 0 where
  pub own : All (λ p. IsPath ops p.of p.names.items) paths
  pub sorted : AllPairs (Before ops) (names_of_paths paths)

-- the new list has the characters of the old one, and these
abbrev pub Gains : List CharName → List CharName → (CharName → Type 0) → Type 0
Gains old new These = (c : CharName) → Contains new c ↔ (Contains old c ⊎ These c)
