use Rattle.std.proofs.Common.{◌-◌, ◌+◌, ◌≡◌, ◌≤◌}
use Rattle.std.specs.List.{list_any}
use Rattle.operations.specs.NameSet.{names_of}
use Rattle.taken_text.specs.Named.{has_visibility}
use Rattle.taken_text.proofs.Alike.{range}
use Rattle.taken_text.proofs.taken_text.TakenText.has_in.Given as goal

-- those that were passed are not as asked
abbrev pub invariant-loop-at : goal.invariant-loop-at
invariant-loop-at l = record {
  after : l.end ≡ l.range.at + l.range.len;
  low : l.range.at ≤ l.at;
  high : l.at ≤ l.end;
  left : list_any (has_visibility l.self.operations l.visible) (names_of l.range)
      ≡ list_any (has_visibility l.self.operations l.visible) (names_of (range l.range.site l.at (l.end - l.at)));
}

abbrev pub decreases-loop-at : goal.decreases-loop-at
decreases-loop-at l = l.end - l.at
