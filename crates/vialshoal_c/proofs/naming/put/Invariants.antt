use Rattle.std.proofs.Common.{◌≡◌}
use Rattle.std.specs.Prelude.{vec_capacity}
use Rattle.vialshoal_c.specs.Naming.{is_range, replica_range}
use Rattle.vialshoal_c.proofs.Handing.{IsPut}
use Rattle.vialshoal_c.proofs.naming.put.Given as goal

abbrev pub invariant-loop-some : goal.invariant-loop-some
invariant-loop-some l = record {
  put : IsPut is_range replica_range l.names l.fn.ranges.items l.ranges.items l.some-index;
  room : vec_capacity l.ranges ≡ vec_capacity l.fn.ranges;
}
