use Rattle.std.proofs.Common.{take}
use Rattle.waiting_room.proofs.LastNames.{NoneMissing}
use Rattle.waiting_room.proofs.missing.missing_among.Given as goal

-- none is missing of the ranges that were passed
abbrev pub invariant-loop-range : goal.invariant-loop-range
invariant-loop-range g l = NoneMissing (g.H.Held.ops l.held) l.site (take l.range-index l.range-items)
