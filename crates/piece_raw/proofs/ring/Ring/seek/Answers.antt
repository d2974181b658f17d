use Rattle.piece_raw.proofs.Standing.{stop-member}
use Rattle.piece_raw.proofs.ring.Ring.seek.Goals as goal

pub invariant_of-self : goal.invariant_of-self
invariant_of-self g c =
    let tied = c.self.invariant.0 in (
      tied,
      stop-member c.self.inside.nodes tied c.args.tag (rw (← c.self.view_is) at c.requires),
      c.self.invariant.2,
    )
