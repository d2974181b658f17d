-- The law of what characters are, hidden or not.
use Rattle.std.specs.Prelude.{◌≡◌, List, map, All}
use Rattle.char_files.specs.CharName.{CharName}
use Rattle.char_files.specs.declared.character.Char.{Char}
use Rattle.operations.specs.Operation.{Operation}
use Rattle.tree_order.specs.Tree.{HasByte}
use Rattle.tree_order.specs.Looks.{HasLooks}

-- there is one list of the characters of these names, each with its byte and its looks, and no other
pub record HasOneEach (ops : List Operation) (names : List CharName) : Type 0 where
  pub chars : List Char
  pub named : map (λ s. s.name) chars ≡ names
  pub bytes : All (λ s. HasByte ops s.name s.byte) chars
  pub looks : All (λ s. HasLooks ops s.name s.looks) chars
  pub only : (other : List Char) → map (λ s. s.name) other ≡ names
      → All (λ s. HasByte ops s.name s.byte) other → All (λ s. HasLooks ops s.name s.looks) other
      → other ≡ chars
