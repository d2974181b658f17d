use Rattle.operations.proofs.Joins.{IsJoined}
use Rattle.operations.proofs.joining.join.Given as goal

-- the ranges so far are joined in the kept ones
abbrev pub invariant-loop-i : goal.invariant-loop-i
invariant-loop-i l = IsJoined l.initial.ranges.items l.ranges.items l.kept l.i
