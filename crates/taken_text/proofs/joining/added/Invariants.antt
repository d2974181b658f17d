use Rattle.std.proofs.Common.{◌↔◌, take}
use Rattle.std.specs.Prelude.{All}
use Rattle.char_files.specs.CharName.{CharName}
use Rattle.operations.specs.NameSet.{IsAmong, IsRange}
use Rattle.taken_text.proofs.joining.added.Given as goal

-- the names are those of the ranges so far
abbrev pub invariant-loop-range : goal.invariant-loop-range
invariant-loop-range l = record {
  names : (c : CharName) → IsAmong l.joined.items c ↔ IsAmong (take l.range-index l.ranges) c;
  ranges : All IsRange l.joined.items;
}
