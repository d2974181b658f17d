use Rattle.std.proofs.Common.{◌≡◌, ◌++◌, map}
use Rattle.taken_text.specs.Rows.{chars_of_rows}
use Rattle.taken_text.proofs.RowChars.{item_of}
use Rattle.taken_text.proofs.stretches.taken_out.Given as goal

-- the characters that were taken out and those of the rows that are left are all
abbrev pub invariant-loop-row : goal.invariant-loop-row
invariant-loop-row l =
    (goal.iterator-loop-row).can_next l.row-iterator × (goal.iterator-loop-row).is_finite l.row-iterator
    × (l.buffer ++ map item_of (chars_of_rows l.row-iterator) ≡ map item_of (chars_of_rows l.initial.row-iterator))
