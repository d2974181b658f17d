use Rattle.std.proofs.Common.{length}
use Rattle.piece_list.proofs.tags.+spread.Given as goal

abbrev pub decreases-spread : goal.decreases-spread
decreases-spread l = length l.tags.now
