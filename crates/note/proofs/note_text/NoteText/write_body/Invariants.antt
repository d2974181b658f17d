use Rattle.std.proofs.Common.{◌≡◌, ℕ, ◌-◌, List, length}
use Rattle.note_laws.specs.Note.{Saying}
use Rattle.note_bodies.specs.Writing.{nothing_said}
use Rattle.note.specs.Own.{HaveSaid}
use Rattle.note.proofs.OwnEntries.{HasPutSoFar}
use Rattle.note.proofs.note_text.NoteText.write_body.Given as goal

abbrev pub invariant-loop-turn : goal.invariant-loop-turn
invariant-loop-turn l =
    (last : ℕ) (said : List Saying) → HaveSaid l.key l.author l.self last l.initial.turn said
    → l.initial.body ≡ nothing_said l.self.replica.text
    → HasPutSoFar l.key l.author l.self last said l.initial.turn l.turn l.body

abbrev pub decreases-loop-turn : goal.decreases-loop-turn
decreases-loop-turn l = length l.self.replica.operations - l.turn.place
