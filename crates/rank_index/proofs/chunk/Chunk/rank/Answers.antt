use Rattle.std.proofs.Common.{sym, ap, ◌∙◌, arith}
use Rattle.rank_index.specs.Ranked.{weight_of}
use Rattle.rank_index.proofs.ChunkRank.{none_passed, others_more, rank_at, weight_of-more, weight_of-more_le}
use Rattle.rank_index.proofs.chunk.Chunk.rank.Goals as goal

pub overflow_add-before : goal.overflow_add-before
overflow_add-before c =
    omega (
      arith,
      weight_of-more_le c.deref-member-items.result.now c.loop-member.member-index (0, 0) c.loop-member-test.true,
      c.loop-member.invariant.before,
      c.from-before.ensures,
      ap weight_of c.deref-member-items.ensures.value,
      c.self.invariant.1,
    )

pub loop-member-preserved : goal.loop-member-preserved
loop-member-preserved c =
    let xs = c.deref-member-items.result.now in
    let i = c.loop-member.member-index in
    let so_far = c.loop-member.invariant in record {
      whole = so_far.whole;
      before = omega (arith, so_far.before, c.from-before.ensures, weight_of-more xs i (0, 0) c.loop-member-test.true);
      others = others_more xs i (0, 0) c.loop-member-test.true c.args.tag so_far.others (λ e. c.if-from-tag.false (c.from.ensures ∙ e));
    }

pub returns-then-from-tag : goal.returns-then-from-tag
returns-then-from-tag c =
    let so_far = c.loop-member.invariant in
    rank_at c.deref-member-items.result.now c.loop-member.member-index (0, 0) c.loop-member-test.true
    c.args.self.now.members c.args.tag c.loop-member.before so_far.whole (sym c.from.ensures ∙ c.if-from-tag.true)
    so_far.before

pub unreachable-requires : goal.unreachable-requires
unreachable-requires c =
    let so_far = c.loop-member.invariant in
    none_passed c.deref-member-items.result.now c.args.self.now.members c.loop-member.member-index c.args.tag
    so_far.whole c.loop-member-test.false so_far.others c.requires
