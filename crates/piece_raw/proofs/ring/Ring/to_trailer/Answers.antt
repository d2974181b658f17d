use Rattle.piece_raw.proofs.Standing.{stop-trailer}
use Rattle.piece_raw.proofs.ring.Ring.to_trailer.Goals as goal

pub invariant_of-self : goal.invariant_of-self
invariant_of-self g c =
    let tied = c.self.invariant.0 in (tied, stop-trailer c.self.inside.nodes tied, c.self.invariant.2)
