use Rattle.std.proofs.Common.{◌-◌, All, length}
use Rattle.note.specs.Editing.{IsOwnEntry}
use Rattle.note.proofs.OwnEntries.{AreEntriesSoFar}
use Rattle.note.proofs.note_text.NoteText.own_entries.Given as goal

abbrev pub invariant-loop-entries : goal.invariant-loop-entries
invariant-loop-entries l = record {
  heads : All (IsOwnEntry l.author l.self) l.entries.items;
  so_far : AreEntriesSoFar l.key l.author l.self l.turn l.entries.items;
}

abbrev pub decreases-loop-entries : goal.decreases-loop-entries
decreases-loop-entries l = length l.self.replica.operations - l.turn.place
