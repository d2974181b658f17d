use Rattle.std.proofs.Common.{◌≡◌, ◌+◌, ◌≤◌, drop}
use Rattle.std.specs.List.{slice_range}
use Rattle.texts.specs.TextState.{shown_of}
use Rattle.desk_texts.proofs.Longest.{AreShown}
use Rattle.desk_texts.proofs.where_shown.run_len.Given as goal

abbrev pub invariant-loop-char : goal.invariant-loop-char
invariant-loop-char l = record {
  left : l.char-iterator ≡ drop l.len (slice_range (shown_of l.replica) l.pos (l.pos + l.most));
  few : l.len ≤ l.names.len;
  shown : AreShown (shown_of l.replica) l.names l.pos l.len;
}
