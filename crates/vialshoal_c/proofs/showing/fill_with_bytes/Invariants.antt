use Rattle.taken_text.specs.Rows.{chars_of_rows}
use Rattle.char_files.specs.Chars.{char_bytes}
use Rattle.vialshoal_c.proofs.Putting.{IsPut}
use Rattle.vialshoal_c.proofs.showing.fill_with_bytes.Given as goal

abbrev pub invariant-loop-row : goal.invariant-loop-row
invariant-loop-row l =
    (goal.iterator-loop-row).can_next l.row-iterator × (goal.iterator-loop-row).is_finite l.row-iterator
    × IsPut (char_bytes (chars_of_rows l.initial.row-iterator)) (char_bytes (chars_of_rows l.row-iterator)) l.initial.room l.room l.at
