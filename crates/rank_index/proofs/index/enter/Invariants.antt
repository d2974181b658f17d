use Rattle.std.proofs.Common.{◌≡◌, ℕ, take, slice_get}
use Rattle.piece_raw.specs.Ring.{HasTag}
use Rattle.rank_index.specs.Chunks.{AreEnteredUnder}
use Rattle.rank_index.proofs.index.enter.Given as goal

abbrev pub invariant-loop-member : goal.invariant-loop-member
invariant-loop-member l = record {
  entered : AreEnteredUnder l.homes l.home (take l.member-index l.members);
  others : (tag : ℕ) → (HasTag (take l.member-index l.members) tag → ⊥)
      → slice_get l.homes tag ≡ slice_get l.initial.homes tag;
}
