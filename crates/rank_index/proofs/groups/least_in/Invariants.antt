use Rattle.std.proofs.Common.{◌≡◌, take}
use Rattle.rank_index.specs.Groups.{least_among}
use Rattle.rank_index.proofs.groups.least_in.Given as goal

abbrev pub invariant-loop-chunk : goal.invariant-loop-chunk
invariant-loop-chunk l = l.least ≡ least_among (take l.chunk-index l.chunks)
