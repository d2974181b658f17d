use Rattle.std.proofs.Common.{arith, subst, sym}
use Rattle.viewers.specs.Tracks.{Covers}
use Rattle.viewers.proofs.Covering.{closed_covers}
use Rattle.viewers.proofs.tracks.close_in.Goals as goal

pub returns-clause-covered : goal.returns-clause-covered
returns-clause-covered c =
    subst (Covers c.args.height) (sym c.close.ensures)
    (closed_covers c.args.height c.seat_index-index.result c.args.seats.now.items c.requires.covered (grind arith))
