use Rattle.std.proofs.Common.{◌≡◌, ◌+◌, take}
use Rattle.rank_index.specs.Ranked.{weight_of}
use Rattle.rank_index.proofs.chunk.Chunk.find.Given as goal

abbrev pub invariant-loop-member : goal.invariant-loop-member
invariant-loop-member l = record {
  whole : l.member-items ≡ l.self.members;
  left : l.pos ≡ weight_of (take l.member-index l.member-items) + l.left;
}
