use Rattle.std.proofs.Common.{◌+◌, ◌-◌, ◌≤◌, rules, arith, sym, subst}
use Rattle.viewers.specs.Tracks.{Covers, top, bottom}
use Rattle.viewers.proofs.Covering.{moved_covers}
use Rattle.viewers.proofs.tracks.move_in.Goals as goal

pub returns-clause-covered : goal.returns-clause-covered
returns-clause-covered c =
    let slice = c.as_slice-2.ensures.value in
    let h = c.can_move.ensures.room (search rules) in
    subst (Covers c.args.height) (sym c.move_border.ensures)
    (moved_covers c.args.height c.seat_index-index.result c.args.row c.args.seats.now.items c.requires.covered
    (grind arith) h.0
    (subst (λ s. top s (c.seat_index-index.result - 1) + 2 ≤ c.args.row) slice h.1)
    (subst (λ s. c.args.row + 2 ≤ bottom s c.seat_index-index.result) slice h.2))
