use Rattle.std.proofs.Common.{◌≡◌, ◌++◌, length}
use Rattle.note_bodies.specs.Bodies.{AreMessagesOf}
use Rattle.note.specs.Notes.{TakesSayings}
use Rattle.note.specs.Texts.{ArePairs, IsSameText}
use Rattle.note.proofs.note.Note.add.Given as goal

abbrev pub invariant-loop-saying : goal.invariant-loop-saying
invariant-loop-saying l =
    AreMessagesOf l.initial.self.key l.fn.head l.fn.body (l.yielded ++ l.saying-iterator.rest.items)
    × (length l.self.texts ≡ length l.initial.self.texts) × TakesSayings l.initial.self l.yielded l.self × ArePairs (λ was t. IsSameText was t) l.initial.self.texts l.self.texts
