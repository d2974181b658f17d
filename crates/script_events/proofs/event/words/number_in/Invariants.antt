use Rattle.script_events.proofs.Words.{SpellsSoFar}
use Rattle.script_events.proofs.event.words.number_in.Given as goal

abbrev pub invariant-loop-byte : goal.invariant-loop-byte
invariant-loop-byte l = SpellsSoFar l.word l.byte-index l.number
