use Rattle.std.proofs.Common.{◌≡◌, ℕ, All, take}
use Rattle.note_admission.specs.Kept.{HasPlace, end_in}
use Rattle.note_admission.proofs.offsets.Offsets.reserve_all.Given as goal

abbrev pub invariant-loop-range : goal.invariant-loop-range
invariant-loop-range l = record {
  same : (other : ℕ) → end_in l.self other ≡ end_in l.initial.self other;
  places : All (λ r. HasPlace l.self r.site) (take l.range-index l.ranges);
}
