use Rattle.std.proofs.Common.{ℕ, sym, subst, arith}
use Rattle.rank_index.specs.Ranked.{IsFound}
use Rattle.rank_index.proofs.ChunkRank.{found_at}
use Rattle.rank_index.proofs.chunk.Chunk.find.Goals as goal

pub returns-then-left-weight : goal.returns-then-left-weight
returns-then-left-weight c =
    let so_far = c.loop-member.invariant in
    let members = c.deref-member-items.result.now in
    subst (λ (tag : ℕ). IsFound c.args.self.now.members c.args.pos tag c.loop-member.left) (sym c.from.ensures)
    (found_at members c.loop-member.member-index (0, 0) c.loop-member-test.true c.args.self.now.members c.args.pos
    c.loop-member.left so_far.whole (omega (arith, c.if-left-weight.true, c.from-weight.ensures)) so_far.left)
