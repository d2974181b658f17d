use Rattle.std.proofs.Common.{◌≡◌, ◌-◌, length, vec_capacity}
use Rattle.texts.specs.TextState.{shown_of}
use Rattle.text_frames.proofs.Walks.{DrawsRows}
use Rattle.text_frames.proofs.drawing.draw_rows.Given as goal

abbrev pub invariant-loop-text : goal.invariant-loop-text
invariant-loop-text l = record {
  drawn : DrawsRows (shown_of l.initial.text.text) l.width l.from l.initial.text.reads l.count l.rows.items l.text.left l.beg
      l.text.reads;
  text : l.text.text ≡ l.initial.text.text;
  capacity : vec_capacity l.rows ≡ vec_capacity l.initial.rows;
}

abbrev pub decreases-loop-text : goal.decreases-loop-text
decreases-loop-text l = l.count - length l.rows.items
