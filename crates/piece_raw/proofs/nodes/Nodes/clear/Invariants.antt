use Rattle.std.proofs.Common.{vec_len}
use Rattle.piece_raw.specs.Tied.{IsTied}
use Rattle.piece_raw.proofs.nodes.Nodes.clear.Given as goal

abbrev pub invariant-loop-block : goal.invariant-loop-block
invariant-loop-block g l = IsTied l.self

abbrev pub decreases-loop-block : goal.decreases-loop-block
decreases-loop-block g l = vec_len l.self.table
