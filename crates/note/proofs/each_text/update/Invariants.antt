use Rattle.std.proofs.Common.{◌≡◌, ℕ, ◌<◌, ◌≤◌, slice_index_or}
use Rattle.note.specs.Texts.{HasAdmittedMore, IsUpToDate, NoteText}
use Rattle.note.proofs.each_text.update.Given as goal

abbrev pub invariant-loop-index : goal.invariant-loop-index
invariant-loop-index l = record {
  done : (k : ℕ) (d : NoteText) → k < l.index
      → HasAdmittedMore l.key l.chains (slice_index_or l.initial.texts k d) (slice_index_or l.texts k d);
  current : (k : ℕ) (d : NoteText) → k < l.index → IsUpToDate (slice_index_or l.texts k d);
  left : (k : ℕ) (d : NoteText) → l.index ≤ k → slice_index_or l.texts k d ≡ slice_index_or l.initial.texts k d;
}
