use Rattle.std.proofs.lemmas.Bool.{both_ways}
use Rattle.set_laws.proofs.Counting.{above_causes, determined_by_counts}
use Rattle.waiting_room.proofs.Above.{lower_stamps, above_predecessor, above_inserts}
use Rattle.waiting_room.proofs.judging.is_above_causes.Goals as goal

pub returns-then-is_above_predecessor : goal.returns-then-is_above_predecessor
returns-then-is_above_predecessor g c =
    let ops = g.H.Held.ops c.args.held.now in
    let op = c.args.op.now in
    let good = c.lemma_are_good.ensures.good in
    let known = c.lemma_are_good.ensures.identified in
    let told = determined_by_counts ops op good known c.requires.new in (
      λ e. above_causes ops op good known
          (lower_stamps ops op (c.is_above_predecessor.ensures.0 c.if-is_above_predecessor.true)
          (c.is_above_inserts.ensures.0 e)),
      λ above. c.is_above_inserts.ensures.1
          (above_inserts ops op (λ name. (told.here name).0) c.requires.here above),
    )

pub returns-else-is_above_predecessor : goal.returns-else-is_above_predecessor
returns-else-is_above_predecessor g c =
    let ops = g.H.Held.ops c.args.held.now in
    let op = c.args.op.now in (
      λ e. absurd (both_ways c.is_above_predecessor.result c.if-is_above_predecessor.false e),
      λ above. c.is_above_predecessor.ensures.1 (above_predecessor ops op c.requires.follows above),
    )
