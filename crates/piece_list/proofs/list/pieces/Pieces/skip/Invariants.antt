use Rattle.piece_list.proofs.Parts.{count_after}
use Rattle.piece_list.proofs.Placing.{Walked}
use Rattle.piece_list.proofs.list.pieces.Pieces.skip.Given as goal

abbrev pub invariant-loop-next : goal.invariant-loop-next
invariant-loop-next l = Walked l.self-inside.ring.items l.key l.fn.from l.last l.initial.steps l.steps

abbrev pub decreases-loop-next : goal.decreases-loop-next
decreases-loop-next l = count_after l.last l.self-inside.ring.items
