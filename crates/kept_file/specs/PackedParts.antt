-- The parts of a packed file.
use Rattle.std.specs.Prelude.{◌≡◌, ℕ, ◌<◌, ◌≤◌, List, ◌++◌, length, All}
use Rattle.operations.specs.Operation.{Operation}
use Rattle.operations.specs.Spelling.{HasSpelling}
use Rattle.texts.specs.Taking.{HasTakenAll}
use Rattle.texts.specs.TextState.{TextState}
use Rattle.packed.specs.Laws.{CanFollow}
use Rattle.packed.specs.Reading.{CanBeNext}
use Rattle.packed.specs.Spelling.{packed, packed_after, packed_next}
use Rattle.packed.specs.Told.{Told, told_after}
use Rattle.kept_file.specs.declared.TheConstants.{MAX_PACKED}

-- the bytes begin with this operation on the text, packed after those that told this, and the rest follows it
pub record IsFirstPacked (told : Told) (text : ℕ) (bytes : List ℕ) (op : Operation) (rest : List ℕ) : Type 0 where
  pub can : CanBeNext told text op
  pub parts : bytes ≡ packed_next told op ++ rest

-- so many operations were taken in that the bytes begin with, one at least, packed after those that told this; and what they tell
pub record HasTakenFirst (t : TextState) (told : Told) (bytes : List ℕ) (n : ℕ) (rest : List ℕ) (new : TextState) (then : Told)
    : Type 0 where
  pub ops : List Operation
  pub counted : length ops ≡ n
  pub some : 0 < n
  pub follow : CanFollow told t.text ops
  pub parts : bytes ≡ packed_after told ops ++ rest
  pub tells : then ≡ told_after told ops
  pub taken : HasTakenAll t ops new

-- the bytes are these operations, packed, of which a file can tell so many
pub record ArePacked (ops : List Operation) (bytes : List ℕ) : Type 0 where
  pub few : length ops ≤ MAX_PACKED
  pub spelled : All HasSpelling ops
  pub parts : bytes ≡ packed ops
