use Rattle.std.proofs.Common.{◌≡◌, ℕ, ◌<◌, get_or, length, ap, arith}
use Rattle.rank_index.specs.Chunks.{ChunkSeen}
use Rattle.rank_index.specs.Ranked.{weight_of}
use Rattle.rank_index.proofs.ChunkRank.{weight_of-more_le}
use Rattle.rank_index.proofs.ChunkSlot.{slot_within, set_at, weight_of-set}
use Rattle.rank_index.proofs.chunk.Chunk.set_weight.Goals as goal

pub overflow_add-self : goal.overflow_add-self
overflow_add-self c =
    let items = c.self.inside.members.items in
    let slot = c.in-Some.slot in
    let m = c.index.result.now in
    let same : items ≡ c.args.self.now.members = ap (λ (s : ChunkSeen). s.members) c.self.view_is in
    let lt : slot < length items =
    omega (arith, slot_within c.args.self.now.members c.args.tag slot c.in-Some.ensures.slot, ap length same) in
    let read : m.1 ≡ (get_or items slot m).1 = ap (λ (n : ℕ × ℕ). n.1) c.index.ensures in
    omega (
      arith,
      weight_of-set items slot (m.0, c.args.weight) m lt,
      weight_of-more_le items slot m lt,
      ap weight_of (set_at items c.args.self.now.members c.args.tag slot c.args.weight m same c.index.ensures
          c.in-Some.ensures.slot c.requires.once),
      c.self.invariant.0,
      c.requires.total,
    )

pub invariant_of-self : goal.invariant_of-self
invariant_of-self c =
    let items = c.self.inside.members.items in
    let slot = c.in-Some.slot in
    let m = c.index.result.now in
    let n = c.index_mut.result.now in
    let same : items ≡ c.args.self.now.members = ap (λ (s : ChunkSeen). s.members) c.self.view_is in
    let lt : slot < length items =
    omega (arith, slot_within c.args.self.now.members c.args.tag slot c.in-Some.ensures.slot, ap length same) in
    let read : m.1 ≡ (get_or items slot m).1 = ap (λ (k : ℕ × ℕ). k.1) c.index.ensures in (
      omega (
        arith,
        weight_of-set items slot (n.0, c.args.weight) m lt,
        weight_of-more_le items slot m lt,
        c.self.invariant.0,
      ),
      omega (
        arith,
        ap weight_of (set_at items c.args.self.now.members c.args.tag slot c.args.weight n same
            c.index_mut.ensures.value c.in-Some.ensures.slot c.requires.once),
        c.requires.total,
      ),
      c.self.invariant.2,
      c.self.invariant.3,
    )

pub returns-clause-members : goal.returns-clause-members
returns-clause-members c =
    let same : c.self.inside.members.items ≡ c.args.self.now.members =
    ap (λ (s : ChunkSeen). s.members) c.self.view_is in
    set_at c.self.inside.members.items c.args.self.now.members c.args.tag c.in-Some.slot c.args.weight
    c.index_mut.result.now same c.index_mut.ensures.value c.in-Some.ensures.slot c.requires.once
