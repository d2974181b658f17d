use Rattle.std.proofs.Common.{◌<◌, length}
use Rattle.std.specs.Prelude.{List, reverse}
use Rattle.operations.specs.Operation.{Operation}
use Rattle.text_chunks.specs.Typed.{AreTypedFirst}
use Rattle.text_chunks.proofs.typed.push_letters.Given as goal

-- the letters so far
abbrev pub invariant-loop-op : goal.invariant-loop-op
invariant-loop-op l =
    (0 < length l.bytes.items)
    × ((ops : List Operation) → AreTypedFirst ops l.typing l.fn.bytes.items (reverse l.operations)
    → AreTypedFirst ops l.typing l.bytes.items (reverse l.left))

abbrev pub decreases-loop-op : goal.decreases-loop-op
decreases-loop-op l = length l.left
