use Rattle.std.proofs.Common.{◌≡◌, filter, take}
use Rattle.note_admission.specs.Continuing.{is_past}
use Rattle.note_admission.proofs.continuing.Continuing.past.Given as goal

abbrev pub invariant-loop-name : goal.invariant-loop-name
invariant-loop-name l = l.past.items ≡ filter (is_past l.self) (take l.name-index l.names)
