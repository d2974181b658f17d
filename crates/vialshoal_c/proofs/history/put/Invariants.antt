use Rattle.std.proofs.Common.{◌≡◌}
use Rattle.std.specs.Prelude.{vec_capacity}
use Rattle.vialshoal_c.specs.History.{is_front, replica_front}
use Rattle.vialshoal_c.proofs.Handing.{IsPut}
use Rattle.vialshoal_c.proofs.history.put.Given as goal

abbrev pub invariant-loop-some : goal.invariant-loop-some
invariant-loop-some l = record {
  put : IsPut is_front replica_front l.fronts l.fn.taken.items l.taken.items l.some-index;
  room : vec_capacity l.taken ≡ vec_capacity l.fn.taken;
}
