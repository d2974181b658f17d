use Rattle.std.proofs.Common.{ap, arith}
use Rattle.std.proofs.lemmas.List.{take_all}
use Rattle.rank_index.specs.Keyed.{least_of}
use Rattle.rank_index.proofs.Keyed.{least_more}
use Rattle.rank_index.proofs.keys.least_in.Goals as goal

pub loop-member-preserved : goal.loop-member-preserved
loop-member-preserved c =
    omega (
      arith,
      c.loop-member.invariant,
      c.min-least.ensures,
      c.key_of.ensures,
      least_more c.args.keys.now c.args.members.now c.loop-member.member-index (0, 0) c.loop-member-test.true,
    )

pub returns : goal.returns
returns c =
    omega (
      arith,
      c.loop-member.invariant,
      ap (least_of c.args.keys.now) (take_all c.loop-member.member-index c.args.members.now (omega (arith, c.loop-member-test.false))),
    )
