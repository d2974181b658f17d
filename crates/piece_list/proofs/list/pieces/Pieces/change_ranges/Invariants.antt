use Rattle.std.proofs.Common.{◌≡◌, ◌+◌, ◌*◌, ◌≤◌, length, map, take}
use Rattle.tree_order.specs.Registers.{if_named}
use Rattle.piece_list.specs.Changing.{changed_char}
use Rattle.piece_list.specs.Held.{KeepFirsts}
use Rattle.piece_list.specs.Noted.{AreNoted, name_count}
use Rattle.piece_list.specs.Spelled.{spelled}
use Rattle.piece_list.proofs.list.pieces.Pieces.change_ranges.Given as goal

abbrev pub invariant-loop-range : goal.invariant-loop-range
invariant-loop-range l = record {
  room : 2 * length l.ranges ≤ l.self.room + 2 * l.range-index;
  values : l.self.values ≡ l.initial.self.values;
  few : length l.self.items ≤ length l.initial.self.items + 2 * l.range-index;
  firsts : KeepFirsts l.initial.self.items l.self.items;
  changed : spelled l.self.items
      ≡ map (if_named (take l.range-index l.ranges) (changed_char l.setting)) (spelled l.initial.self.items);
  noted : AreNoted l.setting l.ranges (name_count (take l.range-index l.ranges)) (2 * l.range-index) l.initial.note l.note
      l.initial.self.items l.self.items;
}
