use Rattle.std.proofs.Common.{◌≡◌, ◌-◌, length}
use Rattle.note.proofs.note_text.NoteText.compare.Given as goal

abbrev pub invariant-loop-self : goal.invariant-loop-self
invariant-loop-self l = record {
  admission : l.self.admission ≡ l.initial.self.admission;
  replica : l.self.replica ≡ l.initial.self.replica;
  anew : l.self.anew ≡ l.initial.self.anew;
}

abbrev pub decreases-loop-self : goal.decreases-loop-self
decreases-loop-self l = length l.self.replica.operations - l.self.alike
