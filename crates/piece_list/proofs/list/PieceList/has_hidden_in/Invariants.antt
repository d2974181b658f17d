use Rattle.std.proofs.Common.{◌-◌, ◌+◌, ◌≡◌, ◌≤◌}
use Rattle.piece_list.specs.Spelled.{spelled}
use Rattle.piece_list.proofs.ChangedNames.{range}
use Rattle.piece_list.proofs.HiddenNames.{NoneHidden}
use Rattle.piece_list.proofs.list.PieceList.has_hidden_in.Given as goal

-- the pieces that were passed are shown
abbrev pub invariant-loop-at : goal.invariant-loop-at
invariant-loop-at l = record {
  after : l.end ≡ l.range.at + l.range.len;
  low : l.range.at ≤ l.at;
  shown : NoneHidden (spelled l.self.items) (range l.range.site l.range.at (l.at - l.range.at));
}

abbrev pub decreases-loop-at : goal.decreases-loop-at
decreases-loop-at l = l.end - l.at
