use Rattle.std.proofs.Common.{◌≡◌}
use Rattle.viewers.specs.Tracks.{top}
use Rattle.viewers.proofs.seats.top.Given as goal

abbrev pub invariant-loop-before : goal.invariant-loop-before
invariant-loop-before l = l.top ≡ top l.seats l.before
