use Rattle.std.proofs.Common.{◌≡◌, ◌*◌, ◌≤◌, take}
use Rattle.char_files.specs.declared.TheConstants.{MAX_FILE}
use Rattle.piece_list.specs.Noted.{name_count}
use Rattle.piece_list.proofs.list.changing.count_names.Given as goal

abbrev pub invariant-loop-range : goal.invariant-loop-range
invariant-loop-range l = record {
  counted : l.count ≡ name_count (take l.range-index l.ranges);
  few : l.count ≤ MAX_FILE * l.range-index;
}
