use Rattle.std.proofs.Common.{take}
use Rattle.std.specs.List.{All}
use Rattle.waiting_room.specs.Room.{StaysWaiting}
use Rattle.waiting_room.proofs.room.Room.first_ready.Given as goal

-- those before stay
abbrev pub invariant-loop-index : goal.invariant-loop-index
invariant-loop-index g l = All (StaysWaiting (g.H.Held.ops l.held)) (take l.index l.self)
