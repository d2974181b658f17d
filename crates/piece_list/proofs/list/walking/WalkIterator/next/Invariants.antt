use Rattle.std.proofs.Common.{◌≡◌, length}
use Rattle.piece_list.specs.Shown.{shown_runs}
use Rattle.piece_list.proofs.list.walking.WalkIterator.next.Given as goal

-- only hidden pieces were passed over
abbrev pub invariant-loop-piece : goal.invariant-loop-piece
invariant-loop-piece l = shown_runs l.self-inside.members ≡ l.fn.self

abbrev pub decreases-loop-piece : goal.decreases-loop-piece
decreases-loop-piece l = length l.self-inside.members
