use Rattle.std.proofs.Common.{arith, ap, ◌∙◌, List, set}
use Rattle.std.proofs.lemmas.Bool.{iff_false}
use Rattle.operations.specs.NameSet.{Range}
use Rattle.operations.proofs.WithName.{both, with_other_at-touching, with_other_at-apart, with_other_at-end}
use Rattle.operations.proofs.name_set.replace.Goals as goal
use Rattle.operations.proofs.name_set.replace.Goals.{else-at-len-via-then-at-len+else-touches}
use Rattle.operations.proofs.name_set.replace.Goals.{else-at-len-via-else-at-len}

pub returns-then-touches : goal.returns-then-touches
returns-then-touches c =
    let ranges = c.args.ranges.now in
    ap (λ (r : Range). set c.remove-next.new.self.items c.args.at r) c.union.ensures
    ∙ ap (λ (xs : List Range). set xs c.args.at (both c.args.range c.remove-next.result))
    c.remove-next.ensures.items
    ∙ with_other_at-touching ranges.items c.args.at c.args.range c.index.result.now c.remove-next.result
    (omega (arith, ranges.ok.0)) c.index.ensures c.remove-next.ensures.value
    (c.touches.ensures.0 c.if-touches.true)

pub returns-else-at-len : goal.returns-else-at-len
returns-else-at-len c =
    let ranges = c.args.ranges.now in
    elim c.else-at-len.branch [
      | else-at-len-via-then-at-len+else-touches w ↦ with_other_at-apart ranges.items c.args.at c.args.range
          w.index.result.now (omega (arith, ranges.ok.0)) w.index.ensures
          (iff_false w.touches.ensures w.if-touches.false)
      | else-at-len-via-else-at-len w ↦ with_other_at-end ranges.items c.args.at c.args.range c.requires
          (omega (arith, ranges.ok.0))
    ]
