use Rattle.note_bodies.proofs.Turns.{SaidSoFar}
use Rattle.note_bodies.proofs.messages.say_in_turn.Given as goal

abbrev pub invariant-loop-index : goal.invariant-loop-index
invariant-loop-index l = SaidSoFar l.fn.key l.fn.head l.fn.ons l.fn.operations l.sayings.items l.left l.index l.before
