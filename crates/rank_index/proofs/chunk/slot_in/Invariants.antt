use Rattle.std.proofs.Common.{◌≢◌, ◌≤◌, All, drop, length}
use Rattle.rank_index.proofs.chunk.slot_in.Given as goal

-- the members after have other tags
abbrev pub invariant-loop-left : goal.invariant-loop-left
invariant-loop-left l = record {
  some : l.left ≤ length l.members;
  others : All (λ m. m.0 ≢ l.tag) (drop l.left l.members);
}

abbrev pub decreases-loop-left : goal.decreases-loop-left
decreases-loop-left l = l.left
