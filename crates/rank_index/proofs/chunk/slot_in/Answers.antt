use Rattle.std.proofs.Common.{◌<◌, ◌-◌, length, refl, sym, ◌∙◌, arith}
use Rattle.rank_index.proofs.ChunkSlot.{has_slot}
use Rattle.rank_index.proofs.ChunkRank.{none_after, slot_at}
use Rattle.rank_index.proofs.chunk.slot_in.Goals as goal

pub returns-then-from-tag-clause-slot : goal.returns-then-from-tag-clause-slot
returns-then-from-tag-clause-slot c =
    let lt : c.loop-left.left - 1 < length c.args.members.now =
    omega (arith, c.loop-left-test.true, c.loop-left.invariant.some) in
    slot_at c.args.members.now (c.loop-left.left - 1) (0, 0) lt c.args.tag
    (sym c.from.ensures ∙ c.if-from-tag.true)

pub returns-then-from-tag-clause-here : goal.returns-then-from-tag-clause-here
returns-then-from-tag-clause-here c = (
  λ _. has_slot c.args.members.now c.args.tag (c.loop-left.left - 1)
      (returns-then-from-tag-clause-slot c),
  λ _. refl,
)

pub returns-clause-here : goal.returns-clause-here
returns-clause-here c = (
  λ some. absurd cc,
  λ here. absurd (none_after c.args.members.now c.loop-left.left c.args.tag
      (omega (arith, c.loop-left-test.false)) c.loop-left.invariant.others here),
)
