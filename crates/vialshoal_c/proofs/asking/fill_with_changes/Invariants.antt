use Rattle.std.proofs.Common.{◌≡◌, drop}
use Rattle.vialshoal_c.proofs.Filling.{IsFilled, change_of}
use Rattle.vialshoal_c.proofs.asking.fill_with_changes.Given as goal

abbrev pub invariant-loop-change : goal.invariant-loop-change
invariant-loop-change l = record {
  same : l.at ≡ l.change-index;
  filled : IsFilled change_of l.changes (drop l.change-index l.changes) l.initial.room l.room l.at;
}
