use Rattle.std.proofs.Common.{◌≡◌, ◌≢◌, All, take}
use Rattle.rank_index.specs.Ranked.{weight_of}
use Rattle.rank_index.proofs.chunk.Chunk.rank.Given as goal

abbrev pub invariant-loop-member : goal.invariant-loop-member
invariant-loop-member l = record {
  whole : l.member-items ≡ l.self.members;
  before : l.before ≡ weight_of (take l.member-index l.member-items);
  others : All (λ m. m.0 ≢ l.tag) (take l.member-index l.member-items);
}
