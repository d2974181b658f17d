use Rattle.std.proofs.Common.{sym, subst}
use Rattle.piece_raw.specs.Ring.{IsMember}
use Rattle.piece_list.specs.Piece.{Piece}
use Rattle.piece_list.specs.Values.{piece_in, pieces_in}
use Rattle.piece_list.proofs.Recorded.{member_on, member_within, tag_off}
use Rattle.piece_list.proofs.ring.PieceRing.piece_at.Goals as goal

pub value_at-requires : goal.value_at-requires
value_at-requires c =
    tag_off (piece_in c.self.inside.values.values) c.self.inside.records.items c.args.number
    (rw (← c.self.view_is) at c.requires)

pub new-requires : goal.new-requires
new-requires c =
    member_within c.self.inside.values.values c.self.inside.records.items c.args.number c.value_at.result.now
    c.self.invariant.0 c.value_at.ensures

pub returns : goal.returns
returns c =
    rw (← c.self.view_is)
    (subst (λ (p : Piece). IsMember (pieces_in c.self.inside.values.values c.self.inside.records.items) c.args.number p)
    (sym c.new.ensures)
    (member_on (piece_in c.self.inside.values.values) c.self.inside.records.items c.args.number c.value_at.result.now
    c.value_at.ensures))
