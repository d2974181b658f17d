use Rattle.std.proofs.Common.{◌≡◌, ◌*◌}
use Rattle.rank_index.specs.declared.groups.TheConstants.{GROUP}
use Rattle.rank_index.specs.Groups.{weight_to}
use Rattle.rank_index.proofs.groups.weight_before.Given as goal

abbrev pub invariant-loop-k : goal.invariant-loop-k
invariant-loop-k l = l.weight ≡ weight_to l.chunks (GROUP * l.k)
