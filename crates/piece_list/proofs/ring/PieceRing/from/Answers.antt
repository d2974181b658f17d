use Rattle.std.proofs.Common.{sym, subst, ◌∙◌}
use Rattle.piece_list.specs.Values.{piece_in}
use Rattle.piece_list.proofs.Recorded.{AreWithin, from_on, from_part, part_within, tag_off_if}
use Rattle.piece_list.proofs.ring.PieceRing.from.Goals as goal

pub from-requires : goal.from-requires
from-requires c =
    tag_off_if (piece_in c.self.inside.values.values) c.self.inside.records.items c.args.at
    (rw (← c.self.view_is) at c.requires)

pub new-requires : goal.new-requires
new-requires c =
    let (before, left, is, first) =
    from_part c.self.inside.records.items c.args.at
    (tag_off_if (piece_in c.self.inside.values.values) c.self.inside.records.items c.args.at
    (rw (← c.self.view_is) at c.requires)) in
    subst (AreWithin c.self.inside.values.values) (sym (c.from.ensures before left is first))
    (part_within c.self.inside.values.values c.self.inside.records.items before left c.self.invariant.0 is)

pub returns : goal.returns
returns c = λ before left is first.
    c.new.ensures
    ∙ from_on c.self.inside.values.values c.self.inside.records.items c.from.result c.args.at c.from.ensures before left
    (rw (← c.self.view_is) at is) first
