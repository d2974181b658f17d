use Rattle.std.proofs.Common.{◌≤◌}
use Rattle.vialshoal_c.specs.History.{NoneIsBeyond, fronts_of}
use Rattle.vialshoal_c.proofs.history.first_beyond.Given as goal

abbrev pub invariant-loop-place : goal.invariant-loop-place
invariant-loop-place l =
    (l.from ≤ l.place) × NoneIsBeyond l.replica.operations (fronts_of l.fronts) l.from l.place
