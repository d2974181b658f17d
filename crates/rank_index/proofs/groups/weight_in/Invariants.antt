use Rattle.std.proofs.Common.{◌≡◌}
use Rattle.rank_index.specs.Groups.{weight_to}
use Rattle.rank_index.proofs.groups.weight_in.Given as goal

abbrev pub invariant-loop-chunk : goal.invariant-loop-chunk
invariant-loop-chunk l = l.weight ≡ weight_to l.chunks l.chunk-index
