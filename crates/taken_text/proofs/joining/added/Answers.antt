use Rattle.std.proofs.Common.{◌↔◌, List, arith, subst}
use Rattle.std.proofs.lemmas.List.{take_all}
use Rattle.operations.specs.NameSet.{Range, IsAmong}
use Rattle.taken_text.proofs.SameNames.{among_next}
use Rattle.taken_text.proofs.joining.added.Goals as goal

pub loop-range-preserved : goal.loop-range-preserved
loop-range-preserved c = record {
  names = among_next c.args.ranges.now c.loop-range.range-index c.range-item.result c.loop-range-test.true c.range-item.is
      c.loop-range.joined.items c.add.new.ranges.items c.loop-range.invariant.names c.in_ok-add.ensures.names;
  ranges = c.in_ok-add.ensures.ranges;
}

pub returns-clause-names : goal.returns-clause-names
returns-clause-names c = λ name.
    subst (λ (ranges : List Range). IsAmong c.loop-range.joined.items name ↔ IsAmong ranges name)
    (take_all c.loop-range.range-index c.args.ranges.now (omega (arith, c.loop-range-test.false)))
    (c.loop-range.invariant.names name)
