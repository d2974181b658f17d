use Rattle.piece_raw.proofs.Standing.{stop-member-if}
use Rattle.piece_raw.proofs.ring.Ring.rest_after.Goals as goal

pub rest_after-requires : goal.rest_after-requires
rest_after-requires g c =
    let tied = c.self.invariant.0 in
    (tied, stop-member-if c.self.inside.nodes tied c.args.last (rw (← c.self.view_is) at c.requires))
