use Rattle.std.proofs.Common.{◌≡◌, ℕ, ◌+◌, ◌-◌, ◌<◌, ◌≤◌, ◌≢◌, get_or}
use Rattle.line_drawing.specs.declared.drawing.TheConstants.{LINE_END}
use Rattle.machine.specs.Windows.{bytes_shown}
use Rattle.text_frames.specs.Reading.{counted}
use Rattle.text_frames.proofs.drawing.line_begin.Given as goal

abbrev pub invariant-loop-beg : goal.invariant-loop-beg
invariant-loop-beg l = record {
  within : l.beg ≤ l.place;
  text : l.text.text ≡ l.initial.text.text;
  between : (k : ℕ) → l.beg ≤ k → k < l.place → get_or (bytes_shown l.initial.text.text) k 0 ≢ LINE_END;
  counts : l.text.reads ≡ counted (l.initial.text.reads + (l.place - l.beg));
}

abbrev pub decreases-loop-beg : goal.decreases-loop-beg
decreases-loop-beg l = l.beg
