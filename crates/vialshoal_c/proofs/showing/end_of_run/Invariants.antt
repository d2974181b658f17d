use Rattle.taken_text.specs.Rows.{chars_of_rows}
use Rattle.texts.specs.TextState.{shown_of}
use Rattle.vialshoal_c.proofs.Runs.{IsFollowed}
use Rattle.vialshoal_c.proofs.showing.end_of_run.Given as goal

abbrev pub invariant-loop-row : goal.invariant-loop-row
invariant-loop-row l =
    (goal.iterator-loop-row).can_next l.row-iterator × (goal.iterator-loop-row).is_finite l.row-iterator
    × IsFollowed (shown_of l.replica) (chars_of_rows l.row-iterator) l.pos l.end l.looks
