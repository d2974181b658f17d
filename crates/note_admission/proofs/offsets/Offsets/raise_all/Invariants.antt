use Rattle.std.proofs.Common.{ℕ, take}
use Rattle.note_admission.specs.Kept.{AreSeenIn, HasPlace}
use Rattle.note_admission.proofs.offsets.Offsets.raise_all.Given as goal

abbrev pub invariant-loop-range : goal.invariant-loop-range
invariant-loop-range l = record {
  seen : AreSeenIn l.initial.self (take l.range-index l.ranges) l.self;
  places : (other : ℕ) → HasPlace l.initial.self other → HasPlace l.self other;
}
