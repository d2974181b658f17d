use Rattle.std.proofs.Common.{◌≡◌, ℕ, ◌<◌, ◌≤◌, slice_index_or}
use Rattle.note_admission.specs.Growing.{IsOfLost}
use Rattle.note.specs.Texts.{HasFollowed, NoteText}
use Rattle.note.proofs.each_text.note_claim.Given as goal

abbrev pub invariant-loop-index : goal.invariant-loop-index
invariant-loop-index l = record {
  done : (k : ℕ) (d : NoteText) → k < l.index
      → HasFollowed l.site (IsOfLost l.lost l.site) (slice_index_or l.initial.texts k d) (slice_index_or l.texts k d);
  left : (k : ℕ) (d : NoteText) → l.index ≤ k → slice_index_or l.texts k d ≡ slice_index_or l.initial.texts k d;
}
