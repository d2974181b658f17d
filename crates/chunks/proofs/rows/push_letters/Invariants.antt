use Rattle.std.proofs.Common.{◌≡◌, ◌++◌, take}
use Rattle.operations.specs.Letters.{letters}
use Rattle.chunks.proofs.rows.push_letters.Given as goal

-- the letters so far
abbrev pub invariant-loop-k : goal.invariant-loop-k
invariant-loop-k l = l.operations.items ≡ l.fn.operations.items ++ letters l.typing (take l.k l.bytes)
