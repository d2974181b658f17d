use Rattle.std.proofs.Common.{◌∙◌, ap, arith}
use Rattle.piece_list.specs.Ringed.{Ringed}
use Rattle.piece_list.proofs.Recorded.{all_within_stay, pieces_stay}
use Rattle.piece_list.proofs.ring.PieceRing.enter.Goals as goal

pub invariant_of-self : goal.invariant_of-self
invariant_of-self c = (
  all_within_stay c.self.inside.values.values c.enter.new.self.values c.enter.ensures.grows c.self.inside.records.items
      c.self.invariant.0,
  c.self.invariant.1,
  omega (arith, c.self.invariant.2, c.enter.ensures.room),
  c.self.invariant.3,
)

pub returns-clause-items : goal.returns-clause-items
returns-clause-items c =
    pieces_stay c.self.inside.values.values c.enter.new.self.values c.enter.ensures.grows c.self.inside.records.items
    c.self.invariant.0
    ∙ ap (λ (r : Ringed). r.items) c.self.view_is
