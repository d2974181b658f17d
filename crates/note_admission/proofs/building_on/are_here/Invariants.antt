use Rattle.std.proofs.Common.{ℕ, ◌<◌, slice_index_or}
use Rattle.char_files.specs.CharName.{CharName}
use Rattle.set_laws.specs.Fronts.{IsHere}
use Rattle.note_admission.proofs.building_on.are_here.Given as goal

abbrev pub invariant-loop-name : goal.invariant-loop-name
invariant-loop-name l = (k : ℕ) (d : CharName) → k < l.name-index → IsHere l.log.ops (slice_index_or l.names k d)
