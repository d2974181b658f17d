use Rattle.std.proofs.Common.{◌≡◌, ◌+◌, drop}
use Rattle.viewers.specs.Tracks.{seat_index}
use Rattle.viewers.proofs.seats.seat_index.Given as goal

-- the seat is among those that are left
abbrev pub invariant-loop-index : goal.invariant-loop-index
invariant-loop-index l = seat_index l.seats l.number ≡ l.index + seat_index (drop l.index l.seats) l.number
