use Rattle.piece_raw.proofs.Standing.{stop-member-if}
use Rattle.piece_raw.proofs.ring.Ring.from.Goals as goal

pub from-requires : goal.from-requires
from-requires g c =
    let tied = c.self.invariant.0 in
    (tied, stop-member-if c.self.inside.nodes tied c.args.at (rw (← c.self.view_is) at c.requires))
