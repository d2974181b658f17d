use Rattle.std.proofs.Common.{◌≡◌, length, ap, arith}
use Rattle.std.specs.List.{insert}
use Rattle.rank_index.specs.Chunks.{ChunkSeen}
use Rattle.rank_index.specs.Ranked.{weight_of}
use Rattle.rank_index.proofs.ChunkSlot.{weight_of-insert}
use Rattle.rank_index.proofs.chunk.Chunk.insert_after.Goals as goal

pub invariant_of-self : goal.invariant_of-self
invariant_of-self c =
    let items = c.self.inside.members.items in
    let slot = c.slot_after-slot.result in
    let put : c.insert.new.self.items ≡ insert items slot (c.args.tag, c.args.weight) = c.in-Ok.ensures.items in
    let more = weight_of-insert items slot (c.args.tag, c.args.weight) in (
      omega (arith, more, ap weight_of put, c.self.invariant.0),
      omega (
        arith,
        more,
        ap weight_of put,
        ap (λ (s : ChunkSeen). weight_of s.members) c.self.view_is,
        c.requires.total,
      ),
      omega (
        arith,
        c.in-Ok.ensures.len,
        c.self.inside.members.ok.0,
        ap (λ (s : ChunkSeen). length s.members) c.self.view_is,
        c.requires.room,
      ),
      omega (arith, c.in-Ok.ensures.capacity, c.self.invariant.3),
    )
