use Rattle.std.proofs.Common.{◌-◌, ◌≤◌, length}
use Rattle.piece_list.proofs.values.near.Given as goal

abbrev pub invariant-loop-at : goal.invariant-loop-at
invariant-loop-at l = l.at ≤ length l.entered

abbrev pub decreases-loop-at : goal.decreases-loop-at
decreases-loop-at l = l.at - l.first
