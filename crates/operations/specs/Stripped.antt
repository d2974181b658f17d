-- What is left of bytes where others were taken off their front.
use Rattle.std.specs.Prelude.{ℕ, ◌==◌, if◌then◌else◌, List, [], ◌∷◌, Option, Some, None}

-- what follows these bytes, where they stand in front
unfoldable pub stripped : (front bytes : List ℕ) → Option (List ℕ)
stripped [] bytes = Some bytes
stripped (f ∷ front) [] = None
stripped (f ∷ front) (b ∷ bytes) = if f == b then stripped front bytes else None
