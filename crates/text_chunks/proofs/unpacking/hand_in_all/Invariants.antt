use Rattle.std.proofs.Common.{length}
use Rattle.std.specs.Prelude.{reverse}
use Rattle.text_chunks.specs.Typed.{AreHandedIn}
use Rattle.text_chunks.proofs.unpacking.hand_in_all.Given as goal

-- the operations so far
abbrev pub invariant-loop-replica : goal.invariant-loop-replica
invariant-loop-replica l =
    AreHandedIn l.fn.replica l.fn.operations.items l.done l.counts l.replica (reverse l.left.items)

abbrev pub decreases-loop-replica : goal.decreases-loop-replica
decreases-loop-replica l = length l.left.items
