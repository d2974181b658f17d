use Rattle.std.proofs.Common.{◌≡◌, ℕ, ◌+◌, List, length, sym, ap, subst, ◌∙◌, arith}
use Rattle.rank_index.specs.Chunks.{ChunkSeen, members_of}
use Rattle.rank_index.specs.Groups.{weight_to}
use Rattle.rank_index.specs.Ranked.{Ranked, IsRank}
use Rattle.rank_index.proofs.Stretches.{IsReadFor, is_within, read_for}
use Rattle.rank_index.proofs.Tagged.{Members}
use Rattle.rank_index.proofs.Weights.{weight_within, rank_within, rank_here}
use Rattle.rank_index.proofs.index.RankIndex.rank.Goals as goal
use Rattle.rank_index.proofs.index.RankIndex.rank.Goals.{After-index}

-- the chunk that is read has the member
is_read : (c : After-index)
    → IsReadFor c.self.inside.chunks.items c.chunk_of-slot.result c.args.tag c.index.result.now
is_read c =
    read_for c.deref.result.now c.self.inside.chunks.items c.chunk_of-slot.result c.args.tag c.index.result.now
    c.deref.ensures.value c.chunk_of-slot.ensures c.index.ensures

-- what was added up is what stands in the chunks before it
before : (c : After-index) → c.weight_before.result ≡ weight_to c.self.inside.chunks.items c.chunk_of-slot.result
before c =
    c.weight_before.ensures
    ∙ ap (λ (l : List ChunkSeen). weight_to l c.chunk_of-slot.result) c.deref-5.ensures.value

pub weight_before-requires-clause-groups : goal.weight_before-requires-clause-groups
weight_before-requires-clause-groups c = rw (c.deref-4.ensures.value, c.deref-5.ensures.value) c.self.invariant.7

pub weight_before-requires-clause-total : goal.weight_before-requires-clause-total
weight_before-requires-clause-total c = rw c.deref-5.ensures.value c.self.invariant.4

pub weight_before-requires-clause-slot : goal.weight_before-requires-clause-slot
weight_before-requires-clause-slot c =
    omega (
      arith,
      is_within c.deref.result.now c.chunk_of-slot.result c.args.tag c.chunk_of-slot.ensures,
      ap length c.deref.ensures.value,
      ap length c.deref-5.ensures.value,
    )

pub index-requires : goal.index-requires
index-requires c =
    omega (
      arith,
      is_within c.deref.result.now c.chunk_of-slot.result c.args.tag c.chunk_of-slot.ensures,
      c.deref.ensures.len,
    )

pub rank-requires : goal.rank-requires
rank-requires c = (is_read c).here

pub overflow_add-result : goal.overflow_add-result
overflow_add-result c =
    let at = (goal.at.overflow_add-result c).After-index in
    let read = is_read at in
    omega (
      arith,
      before at,
      rank_within c.index.result.now.members c.args.tag c.rank.result c.rank.ensures,
      weight_within
          c.self.inside.chunks.items c.chunk_of-slot.result c.index.result.now read.within read.is,
      c.self.invariant.4,
    )

pub returns : goal.returns
returns c =
    let at = (goal.at.returns c).After-index in
    let chunks = c.self.inside.chunks.items in
    let slot = c.chunk_of-slot.result in
    let read = is_read at in
    let in_chunks : IsRank (members_of chunks) c.args.tag
    (weight_to chunks slot + c.rank.result) =
    rank_here chunks slot c.index.result.now read.within read.is c.args.tag c.rank.result c.rank.ensures in
    record {
      rank = subst (λ (l : Members). IsRank l c.args.tag (c.weight_before.result + c.rank.result))
          (ap (λ (r : Ranked). r.items) c.self.view_is)
          (subst (λ (n : ℕ). IsRank (members_of chunks) c.args.tag (n + c.rank.result)) (sym (before at)) in_chunks);
    }
