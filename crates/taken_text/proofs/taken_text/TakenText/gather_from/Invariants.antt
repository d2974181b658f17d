use Rattle.std.proofs.Common.{◌-◌, ◌+◌, ◌++◌, ◌≡◌, ◌≤◌, filter}
use Rattle.operations.specs.NameSet.{names_in, names_of}
use Rattle.taken_text.specs.Named.{has_visibility}
use Rattle.taken_text.proofs.Alike.{range}
use Rattle.taken_text.proofs.taken_text.TakenText.gather_from.Given as goal

-- those that were passed and are as asked were put there
abbrev pub invariant-loop-at : goal.invariant-loop-at
invariant-loop-at l = record {
  after : l.end ≡ l.range.at + l.range.len;
  low : l.range.at ≤ l.at;
  high : l.at ≤ l.end;
  left : names_in l.found.items ++ filter (has_visibility l.self.operations l.visible) (names_of (range l.range.site l.at (l.end - l.at)))
      ≡ names_in l.fn.found.items ++ filter (has_visibility l.self.operations l.visible) (names_of l.range);
}

abbrev pub decreases-loop-at : goal.decreases-loop-at
decreases-loop-at l = l.end - l.at
