use Rattle.std.proofs.Common.{arith, rules, ap, ◌∙◌, set, refl}
use Rattle.operations.specs.NameSet.{Range, with_range_at}
use Rattle.operations.proofs.WithName.{with_range_at-touching, length-with_range_at, not_scattered}
use Rattle.operations.proofs.name_set.add.Goals as goal

pub returns-then-touches-clause-ok : goal.returns-then-touches-clause-ok
returns-then-touches-clause-ok c =
    let ranges = c.args.ranges.now in
    ap (λ (r : Range). set ranges.items c.args.at r) c.union.ensures
    ∙ with_range_at-touching ranges.items c.args.at c.args.range c.index.result.now
    c.index-then-touches.result.now (omega (arith, ranges.ok.0)) c.index.ensures
    c.index-then-touches.ensures (c.touches.ensures.0 c.if-touches.true)

pub returns-in_err-insert-clause-scattered : goal.returns-in_err-insert-clause-scattered
returns-in_err-insert-clause-scattered c =
    let ranges = c.args.ranges.now in
    let room = length-with_range_at ranges.items c.args.at c.args.range c.requires.within in (
      λ scattered. search rules,
      λ more. absurd (omega (arith, room, c.requires.few, ranges.ok.0)),
    )

pub returns-clause-scattered : goal.returns-clause-scattered
returns-clause-scattered c =
    let ranges = c.args.ranges.now in
    not_scattered (with_range_at ranges.items c.args.at c.args.range) _ refl
    (omega (
      arith,
      length-with_range_at ranges.items c.args.at c.args.range c.requires.within,
      c.requires.few,
      ranges.ok.0,
    ))
