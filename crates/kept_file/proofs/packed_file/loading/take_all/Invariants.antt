use Rattle.std.proofs.Common.{◌-◌}
use Rattle.kept_file.specs.declared.TheConstants.{MAX_PACKED}
use Rattle.kept_file.proofs.PackedLoaded.{IsUnderWay}
use Rattle.kept_file.proofs.packed_file.loading.take_all.Given as goal

abbrev pub invariant-loop-rest : goal.invariant-loop-rest
invariant-loop-rest l = IsUnderWay l.fn.replica l.replica l.history l.bytes l.done l.rest

abbrev pub decreases-loop-rest : goal.decreases-loop-rest
decreases-loop-rest l = MAX_PACKED - l.done
