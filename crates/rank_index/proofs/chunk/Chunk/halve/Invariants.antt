use Rattle.std.proofs.Common.{◌≡◌, take, drop}
use Rattle.rank_index.specs.declared.chunk.TheConstants.{HALF}
use Rattle.rank_index.proofs.chunk.Chunk.halve.Given as goal

abbrev pub invariant-loop-member : goal.invariant-loop-member
invariant-loop-member l = record {
  whole : l.member-items ≡ drop HALF l.fn.self.members;
  moved : l.rest.members ≡ take l.member-index l.member-items;
  home : l.rest.home ≡ l.fn.rest.home;
}
