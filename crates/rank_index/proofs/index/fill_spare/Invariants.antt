use Rattle.std.proofs.Common.{◌≡◌, ◌+◌, ◌-◌, ◌≤◌, max, vec_len, vec_capacity}
use Rattle.rank_index.specs.Chunks.{AreEmpty}
use Rattle.rank_index.proofs.index.fill_spare.Given as goal

abbrev pub invariant-loop-alloc : goal.invariant-loop-alloc
invariant-loop-alloc l = record {
  empty : AreEmpty l.spare.items;
  room : vec_len l.chunks + vec_len l.spare ≤ vec_capacity l.chunks;
  counted : vec_len l.slots ≡ vec_len l.chunks;
  slots_room : vec_len l.chunks + vec_len l.spare ≤ vec_capacity l.slots;
  slots : l.slots.items ≡ l.initial.slots.items;
  same : l.chunks.items ≡ l.initial.chunks.items;
  spare : vec_len l.initial.spare ≤ vec_len l.spare;
  most : vec_len l.chunks + vec_len l.spare ≤ max l.wanted (vec_len l.initial.chunks + vec_len l.initial.spare);
}

abbrev pub decreases-loop-alloc : goal.decreases-loop-alloc
decreases-loop-alloc l = l.wanted - (vec_len l.chunks + vec_len l.spare)
