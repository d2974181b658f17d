use Rattle.piece_raw.proofs.Standing.{stop-member, has-stop-if}
use Rattle.piece_raw.proofs.ring.Ring.after.Goals as goal

pub next-requires : goal.next-requires
next-requires g c =
    let tied = c.self.invariant.0 in
    (tied, stop-member c.self.inside.nodes tied c.args.tag (rw (← c.self.view_is) at c.requires))

pub returns-clause-there : goal.returns-clause-there
returns-clause-there g c =
    rw (← c.self.view_is) (has-stop-if c.self.inside.nodes c.self.invariant.0 c.next.result c.next.ensures.there)
