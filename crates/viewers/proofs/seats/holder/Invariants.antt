use Rattle.std.proofs.Common.{◌≡◌, ◌+◌, drop}
use Rattle.viewers.specs.Tracks.{holder}
use Rattle.viewers.proofs.seats.holder.Given as goal

-- what is left of the row leads to the same seat among those that are left
abbrev pub invariant-loop-index : goal.invariant-loop-index
invariant-loop-index l = holder l.seats l.row ≡ l.index + holder (drop l.index l.seats) l.left
