use Rattle.kept_file.proofs.PackedStored.{ArePut}
use Rattle.kept_file.proofs.packed_file.storing.put_operations.Given as goal

-- the operations so far
abbrev pub invariant-loop-place : goal.invariant-loop-place
invariant-loop-place l = ArePut l.replica.operations l.fn.out.items l.out.items l.place l.history
