use Rattle.std.proofs.Common.{vec_len}
use Rattle.std.specs.List.{AllByRecursion}
use Rattle.piece_raw.specs.Spares.{IsSpare}
use Rattle.piece_raw.proofs.spares.free_all.Given as goal

abbrev pub invariant-loop-room : goal.invariant-loop-room
invariant-loop-room g l = AllByRecursion IsSpare l.spare.items

abbrev pub decreases-loop-room : goal.decreases-loop-room
decreases-loop-room g l = vec_len l.spare
