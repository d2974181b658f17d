use Rattle.std.proofs.Common.{◌-◌, ◌≡◌, ◌+◌, ◌≤◌, [], ◌∷◌, map}
use Rattle.tree_order.specs.Registers.{if_named}
use Rattle.piece_list.specs.Changing.{AreTheSame, IsEdge, changed_char}
use Rattle.piece_list.specs.Noted.{AreNoted}
use Rattle.piece_list.specs.Spelled.{spelled}
use Rattle.piece_list.proofs.ChangedNames.{range}
use Rattle.piece_list.proofs.list.pieces.Pieces.change_range.Given as goal

abbrev pub invariant-loop-at : goal.invariant-loop-at
invariant-loop-at l = record {
  end : l.end ≡ l.range.at + l.range.len;
  low : l.range.at ≤ l.at;
  high : l.at ≤ l.end;
  begins : IsEdge l.range.site l.at l.self.items;
  ends : IsEdge l.range.site l.end l.self.items;
  changed : spelled l.self.items
      ≡ map (if_named (range l.range.site l.range.at (l.at - l.range.at) ∷ []) (changed_char l.setting))
      (spelled l.initial.self.items);
  same : AreTheSame l.initial.self.items l.self.items;
  room : l.self.room ≡ l.initial.self.room;
  values : l.self.values ≡ l.initial.self.values;
  noted : AreNoted l.setting (l.range ∷ []) (l.at - l.range.at) 0 l.initial.note l.note l.initial.self.items
      l.self.items;
}

abbrev pub decreases-loop-at : goal.decreases-loop-at
decreases-loop-at l = l.end - l.at
