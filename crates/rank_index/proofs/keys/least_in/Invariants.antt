use Rattle.std.proofs.Common.{◌≡◌, take}
use Rattle.rank_index.specs.Keyed.{least_of}
use Rattle.rank_index.proofs.keys.least_in.Given as goal

abbrev pub invariant-loop-member : goal.invariant-loop-member
invariant-loop-member l = l.least ≡ least_of l.keys (take l.member-index l.members)
