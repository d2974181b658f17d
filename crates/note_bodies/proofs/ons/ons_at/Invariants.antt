use Rattle.std.proofs.Common.{◌-◌}
use Rattle.note_bodies.proofs.Turns.{OnsSoFar}
use Rattle.note_bodies.proofs.ons.ons_at.Given as goal

abbrev pub invariant-loop : goal.invariant-loop
invariant-loop l = OnsSoFar l.fn.count l.fn.bound l.fn.bytes l.ons.items (l.fn.count - l.counter) l.least l.rest
