use Rattle.std.proofs.Common.{◌≡◌, ◌++◌, length}
use Rattle.std.specs.Prelude.{vec_capacity}
use Rattle.script_events.specs.Script.{bytes_in}
use Rattle.script_events.proofs.Spelling.{IsDecoded}
use Rattle.script_events.proofs.escaped.Escaped.decode.Given as goal

abbrev pub invariant-loop-first : goal.invariant-loop-first
invariant-loop-first l = IsDecoded (l.fn.out.items ++ l.fn.self) l.out.items (bytes_in l.rest) × (vec_capacity l.out ≡ vec_capacity l.fn.out)

abbrev pub decreases-loop-first : goal.decreases-loop-first
decreases-loop-first l = length l.rest
