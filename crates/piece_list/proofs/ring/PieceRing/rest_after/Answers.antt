use Rattle.std.proofs.Common.{sym, subst, ◌∙◌}
use Rattle.piece_list.specs.Values.{piece_in}
use Rattle.piece_list.proofs.Recorded.{AreWithin, after_on, after_part, part_within, tag_off_if}
use Rattle.piece_list.proofs.ring.PieceRing.rest_after.Goals as goal

pub rest_after-requires : goal.rest_after-requires
rest_after-requires c =
    tag_off_if (piece_in c.self.inside.values.values) c.self.inside.records.items c.args.last
    (rw (← c.self.view_is) at c.requires)

pub new-requires : goal.new-requires
new-requires c =
    let (before, left, is, ends) =
    after_part c.self.inside.records.items c.args.last
    (tag_off_if (piece_in c.self.inside.values.values) c.self.inside.records.items c.args.last
    (rw (← c.self.view_is) at c.requires)) in
    subst (AreWithin c.self.inside.values.values) (sym (c.rest_after.ensures before left is ends))
    (part_within c.self.inside.values.values c.self.inside.records.items before left c.self.invariant.0 is)

pub returns : goal.returns
returns c = λ before left is ends.
    c.new.ensures
    ∙ after_on c.self.inside.values.values c.self.inside.records.items c.rest_after.result c.args.last c.rest_after.ensures before left
    (rw (← c.self.view_is) at is) ends
