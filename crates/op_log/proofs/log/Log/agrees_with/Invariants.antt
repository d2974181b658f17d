use Rattle.std.proofs.Common.{◌≡◌, ℕ, ◌<◌, [], ◌∷◌, ◌++◌, Some, slice_get}
use Rattle.operations.specs.Operation.{Operation}
use Rattle.set_laws.specs.Sets.{AreIdentified}
use Rattle.op_log.proofs.log.Log.agrees_with.Given as goal

abbrev pub invariant-loop-place : goal.invariant-loop-place
invariant-loop-place l = (k : ℕ) (op : Operation) → k < l.place → slice_get l.fn.other.ops k ≡ Some op
    → AreIdentified (l.fn.self.ops ++ op ∷ [])
