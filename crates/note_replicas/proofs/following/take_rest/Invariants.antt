use Rattle.std.proofs.Common.{◌-◌, length}
use Rattle.note_replicas.specs.Following.{Advances, HasTakenBeginning, IsOfPlace}
use Rattle.note_replicas.proofs.following.take_rest.Given as goal

abbrev pub invariant-loop-replica : goal.invariant-loop-replica
invariant-loop-replica l = HasTakenBeginning l.replica l.log.ops × IsOfPlace l.initial.replica l.replica × Advances l.initial.replica l.replica

abbrev pub decreases-loop-replica : goal.decreases-loop-replica
decreases-loop-replica l = length l.log.ops - length l.replica.operations
