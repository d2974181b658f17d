use Rattle.std.proofs.Common.{List, take_all, sym, subst, arith}
use Rattle.operations.specs.NameSet.{Range}
use Rattle.note_admission.specs.Kept.{AreSeenIn}
use Rattle.note_admission.proofs.OneMore.{seen_more}
use Rattle.note_admission.proofs.offsets.Offsets.raise_all.Goals as goal

pub loop-range-preserved : goal.loop-range-preserved
loop-range-preserved c = record {
  seen = seen_more c.args.self.now c.loop-range.self c.raise.new.self c.args.ranges.now c.loop-range.range-index
      c.range-item.result c.loop-range-test.true (sym c.range-item.is) c.loop-range.invariant.seen c.raise.ensures.seen;
  places = λ other has. c.raise.ensures.keeps other (c.loop-range.invariant.places other has);
}

pub returns : goal.returns
returns c =
    let past = c.loop-range-test.false in
    subst (λ (rs : List Range). AreSeenIn c.args.self.now rs c.loop-range.self)
    (take_all c.loop-range.range-index c.args.ranges.now (omega arith)) c.loop-range.invariant.seen
