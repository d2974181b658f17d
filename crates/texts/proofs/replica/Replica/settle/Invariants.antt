use Rattle.std.proofs.Common.{◌+◌, ◌≤◌, length}
use Rattle.waiting_room.specs.declared.room.TheConstants.{MAX_WAITING}
use Rattle.texts.proofs.Draining.{LeadsTo}
use Rattle.texts.proofs.replica.Replica.settle.Given as goal

abbrev pub invariant-loop-index : goal.invariant-loop-index
invariant-loop-index l =
    LeadsTo l.initial.self l.drained l.dropped l.self
    × (l.drained + l.dropped + length l.self.waiting_room ≤ MAX_WAITING)

abbrev pub decreases-loop-index : goal.decreases-loop-index
decreases-loop-index l = length l.self.waiting_room
