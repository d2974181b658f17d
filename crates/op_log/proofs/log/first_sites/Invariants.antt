use Rattle.std.proofs.Common.{◌≡◌, take}
use Rattle.op_log.specs.Logged.{first_sites}
use Rattle.op_log.proofs.log.first_sites.Given as goal

abbrev pub invariant-loop-at : goal.invariant-loop-at
invariant-loop-at l = l.sites.items ≡ first_sites (take l.at l.ops.items)
