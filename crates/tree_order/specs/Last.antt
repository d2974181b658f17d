-- The operation of the greatest key, among those that set something.
use Rattle.std.specs.Prelude.{◌≡◌, false, List, Contains}
use Rattle.looks.specs.Key.{is_below}
use Rattle.operations.specs.Operation.{Operation, key_of}

-- of all operations that set it this one has the greatest key
pub record IsLast (Sets : Operation → Type 0) (ops : List Operation) (op : Operation) : Type 0 where
  pub held : Contains ops op
  pub sets : Sets op
  pub greatest : (other : Operation) → Contains ops other → Sets other
      → is_below (key_of op) (key_of other) ≡ false
