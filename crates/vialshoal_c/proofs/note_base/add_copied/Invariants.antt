use Rattle.vialshoal_c.proofs.Bases.{AreAdded}
use Rattle.vialshoal_c.proofs.note_base.add_copied.Given as goal

abbrev pub invariant-loop-op : goal.invariant-loop-op
invariant-loop-op l = AreAdded l.fn.key l.fn.before l.fn.operations l.fn.base.items l.base.items l.last l.op-index
