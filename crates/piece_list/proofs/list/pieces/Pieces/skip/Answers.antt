use Rattle.std.proofs.Common.{refl, subst, arith}
use Rattle.rank_index.specs.Keyed.{IsPassedIn}
use Rattle.piece_list.proofs.Keyed.{passed_pieces}
use Rattle.piece_list.proofs.Placing.{ArePassed, next_has_tag, pass_shrinks, walk_begins, walk_part, walk_goes_on, walk_passes, walk_shrinks}
use Rattle.piece_list.proofs.Placing.{walk_ends}
use Rattle.piece_list.proofs.Weighed.{has_weight}
use Rattle.piece_list.proofs.list.pieces.Pieces.skip.Goals as goal
use Rattle.piece_list.proofs.list.pieces.Pieces.skip.Goals.{After-pass}

pub loop-next-init : goal.loop-next-init
loop-next-init c = walk_begins c.self.inside.ring.items c.args.key c.args.from c.args.steps.now

pub next_above-requires : goal.next_above-requires
next_above-requires c =
    walk_part c.self.inside.ring.items c.args.key c.args.from c.loop-next.last c.args.steps.now c.loop-next.steps
    (rw (← c.self.view_is) at c.requires) c.loop-next.invariant

pub pass-requires : goal.pass-requires
pass-requires c = record {
  here = has_weight c.self.inside.ring.items c.self.inside.index.items c.in-Some.next c.self.invariant.indexed
      (next_has_tag c.self.inside.ring.items c.args.key c.loop-next.last c.in-Some.next
      (walk_part c.self.inside.ring.items c.args.key c.args.from c.loop-next.last c.args.steps.now c.loop-next.steps
      (rw (← c.self.view_is) at c.requires) c.loop-next.invariant) c.in-Some.ensures.above);
}

-- what the index passes are pieces of greater key
passed : (c : After-pass) → ArePassed c.self.inside.ring.items c.args.key c.in-Some.next c.pass.result
passed c =
    passed_pieces c.self.inside.ring.items c.self.inside.index.items c.self.inside.index.keys c.args.key c.in-Some.next
    c.pass.result c.self.invariant.indexed c.self.invariant.keyed
    (subst (λ n. IsPassedIn c.self.inside.index.keys n c.self.inside.index.items c.in-Some.next c.pass.result)
    c.number_of-bound.ensures c.pass.ensures.passed)

pub loop-next-smaller : goal.loop-next-smaller
loop-next-smaller c =
    omega (
      arith,
      walk_shrinks c.self.inside.ring.items c.args.key c.loop-next.last c.in-Some.next c.self.invariant.numbered
          (walk_part c.self.inside.ring.items c.args.key c.args.from c.loop-next.last c.args.steps.now c.loop-next.steps
          (rw (← c.self.view_is) at c.requires) c.loop-next.invariant)
          c.in-Some.ensures.above,
      pass_shrinks c.self.inside.ring.items c.args.key c.in-Some.next c.pass.result c.self.invariant.numbered
          (passed (goal.at.loop-next-smaller c).After-pass),
    )

pub loop-next-preserved : goal.loop-next-preserved
loop-next-preserved c =
    walk_passes c.self.inside.ring.items c.args.key c.args.from c.in-Some.next c.pass.result c.args.steps.now
    c.next_above.new.steps c.self.invariant.numbered
    (walk_goes_on c.self.inside.ring.items c.args.key c.args.from c.loop-next.last c.in-Some.next
    c.args.steps.now c.loop-next.steps c.next_above.new.steps c.loop-next.invariant c.in-Some.ensures.above
    c.in-Some.ensures.steps) (passed (goal.at.loop-next-preserved c).After-pass)

pub returns : goal.returns
returns c =
    rw (← c.self.view_is)
    (walk_ends c.self.inside.ring.items c.args.key c.args.from c.loop-next.last c.args.steps.now
    c.loop-next.steps c.next_above.new.steps c.loop-next.invariant (c.in_default.ensures.stops refl)
    c.in_default.ensures.steps)
