use Rattle.piece_raw.specs.Tied.{spots}
use Rattle.piece_raw.proofs.Apart.{apart_places}
use Rattle.piece_raw.proofs.Standing.{stop-trailer, has-stop-if}
use Rattle.piece_raw.proofs.Writing.{are_tags}
use Rattle.piece_raw.proofs.ring.Ring.first.Goals as goal

pub next-requires : goal.next-requires
next-requires g c = let tied = c.self.invariant.0 in (tied, stop-trailer c.self.inside.nodes tied)

pub returns-clause-tags : goal.returns-clause-tags
returns-clause-tags g c =
    let n = c.self.inside.nodes in let l = n.links in
    rw (← c.self.view_is) (are_tags (spots n.table.items)
    l.nodes c.self.invariant.0.matches (apart_places l.trailer.at l.nodes l.apart))

pub returns-clause-there : goal.returns-clause-there
returns-clause-there g c =
    rw (← c.self.view_is) (has-stop-if c.self.inside.nodes c.self.invariant.0 c.next.result c.next.ensures.there)
