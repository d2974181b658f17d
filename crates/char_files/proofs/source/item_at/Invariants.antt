use Rattle.std.proofs.Common.{◌≡◌, ◌+◌, ◌-◌, ◌≤◌, length, take}
use Rattle.char_files.specs.Stretch.{items_of}
use Rattle.char_files.proofs.source.item_at.Given as goal

-- the runs before have the characters before
abbrev pub invariant-loop-within : goal.invariant-loop-within
invariant-loop-within l = record {
  before : length (items_of (take l.index l.runs)) + l.within ≡ l.fn.pos;
  inside : l.index ≤ length l.runs;
}

abbrev pub decreases-loop-within : goal.decreases-loop-within
decreases-loop-within l = length l.runs - l.index
