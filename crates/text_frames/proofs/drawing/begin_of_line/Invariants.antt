use Rattle.std.proofs.Common.{◌≡◌}
use Rattle.texts.specs.TextState.{shown_of}
use Rattle.text_frames.proofs.Walks.{SeeksLine}
use Rattle.text_frames.proofs.drawing.begin_of_line.Given as goal

abbrev pub invariant-loop-line : goal.invariant-loop-line
invariant-loop-line l = record {
  seeks : SeeksLine (shown_of l.initial.text.text) l.initial.text.reads l._line l.text.left l.beg l.text.reads;
  text : l.text.text ≡ l.initial.text.text;
}
