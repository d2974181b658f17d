use Rattle.std.proofs.Common.{◌≡◌, length}
use Rattle.text_frames.proofs.OneLine.{ReadsLine}
use Rattle.text_frames.proofs.rows.read_row.Given as goal

abbrev pub invariant-loop-byte : goal.invariant-loop-byte
invariant-loop-byte l = record {
  line : ReadsLine l.width l.beg l.initial.text.reads l.initial.text.left l.text.left l.cells.items l.end l.text.reads;
  text : l.text.text ≡ l.initial.text.text;
}

abbrev pub decreases-loop-byte : goal.decreases-loop-byte
decreases-loop-byte l = length l.text.left
