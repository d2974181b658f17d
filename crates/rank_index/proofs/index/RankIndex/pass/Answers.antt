use Rattle.std.proofs.Common.{◌≡◌, ℕ, ◌+◌, ◌++◌, List, length, drop, sym, ap, subst, ◌∙◌, arith, true≢false}
use Rattle.rank_index.specs.Chunks.{ChunkSeen, members_of}
use Rattle.rank_index.specs.Keyed.{AreAbove, IsPassed, IsPassedIn}
use Rattle.rank_index.specs.Ranked.{Ranked}
use Rattle.rank_index.proofs.Keyed.{passed_in_all, stops_in_all}
use Rattle.rank_index.proofs.Lows.{few_groups}
use Rattle.rank_index.proofs.Stretches.{IsReadFor, read_for}
use Rattle.rank_index.proofs.Tagged.{Members}
use Rattle.rank_index.proofs.index.RankIndex.pass.Goals as goal
use Rattle.rank_index.proofs.index.RankIndex.pass.Goals.{After-index}

-- the chunk that is read has the member
is_read : (c : After-index)
    → IsReadFor c.self.inside.chunks.items c.chunk_of-slot.result c.args.tag c.index.result.now
is_read c =
    read_for c.deref.result.now c.self.inside.chunks.items c.chunk_of-slot.result c.args.tag c.index.result.now
    c.deref.ensures.value c.chunk_of-slot.ensures c.index.ensures

pub returns-then-stops-clause-passed : goal.returns-then-stops-clause-passed
returns-then-stops-clause-passed c =
    let read = is_read (goal.at.returns-then-stops-clause-passed c).After-index in
    let last : ℕ = c.pass_after-last.result.0 in
    let (before, weight, follow, cut, stops, all) = c.pass_after-last.ensures.passed in
    subst (λ (r : Ranked). IsPassedIn r.keys c.args.key r.items c.args.tag last) c.self.view_is
    (stops_in_all c.self.inside.keys.items c.args.key c.self.inside.chunks.items c.chunk_of-slot.result c.index.result.now
    read.within read.is before follow c.args.tag weight cut last (λ (more : Members).
    subst (λ (keys : List ℕ). IsPassed keys c.args.key (follow ++ more) c.args.tag last) c.deref-4.ensures.value
    (stops c.if-stops.true more)))

pub overflow_add-slot : goal.overflow_add-slot
overflow_add-slot c =
    let chunks = c.self.inside.chunks in
    let read = is_read (goal.at.overflow_add-slot c).After-index in
    omega (arith, read.within, chunks.ok.0, chunks.ok.1, chunks.small)

pub pass_on-requires-clause-least : goal.pass_on-requires-clause-least
pass_on-requires-clause-least c = rw (c.deref-7.ensures.value, c.deref-5.ensures.value) c.self.invariant.10

pub pass_on-requires-clause-lows : goal.pass_on-requires-clause-lows
pass_on-requires-clause-lows c = rw (c.deref-6.ensures.value, c.deref-5.ensures.value) c.self.invariant.11

pub pass_on-requires-clause-halves : goal.pass_on-requires-clause-halves
pass_on-requires-clause-halves c = rw c.deref-5.ensures.value c.self.invariant.0.halves

pub returns-clause-passed : goal.returns-clause-passed
returns-clause-passed c =
    let read = is_read (goal.at.returns-clause-passed c).After-index in
    let slot : ℕ = c.chunk_of-slot.result in
    let keys : List ℕ = c.self.inside.keys.items in
    let chunks : List ChunkSeen = c.self.inside.chunks.items in
    let mid : ℕ = c.pass_after-last.result.0 in
    let last : ℕ = c.pass_on.result in
    let (before, weight, follow, cut, stops, all) = c.pass_after-last.ensures.passed in
    let (above, mid_is) = all (λ yes. true≢false (sym yes ∙ c.if-stops.false)) in
    let on : IsPassed keys c.args.key (members_of (drop (slot + 1) chunks)) mid last =
    subst (λ (l : List ChunkSeen). IsPassed keys c.args.key (members_of (drop (slot + 1) l)) mid last) c.deref-5.ensures.value
    (subst (λ (ks : List ℕ). IsPassed ks c.args.key (members_of (drop (slot + 1) c.deref-5.result.now)) mid last)
    c.deref-7.ensures.value c.pass_on.ensures.passed) in
    subst (λ (r : Ranked). IsPassedIn r.keys c.args.key r.items c.args.tag last) c.self.view_is
    (passed_in_all keys c.args.key chunks slot c.index.result.now read.within read.is before follow c.args.tag weight cut mid
    last (subst (λ (ks : List ℕ). AreAbove ks c.args.key follow) c.deref-4.ensures.value above) mid_is on)

pub returns-clause-few : goal.returns-clause-few
returns-clause-few c =
    let chunks : List ChunkSeen = c.self.inside.chunks.items in
    let count : length (members_of chunks) ≡ length c.args.self.now.items = ap (λ (r : Ranked). length r.items) c.self.view_is in
    omega (
      arith,
      c.pass_after-last.ensures.few,
      c.pass_on.ensures.few,
      few_groups chunks c.self.invariant.0.halves,
      count,
      ap (λ (l : List ChunkSeen). length l) c.deref-5.ensures.value,
    )
