use Rattle.std.proofs.Common.{◌≡◌, ◌++◌, length}
use Rattle.std.specs.Prelude.{vec_capacity}
use Rattle.script_events.specs.Script.{hex_pairs}
use Rattle.script_events.proofs.Spelling.{IsDecoded}
use Rattle.script_events.proofs.hex_bytes.Hex.decode.Given as goal

abbrev pub invariant-loop-rest : goal.invariant-loop-rest
invariant-loop-rest l = IsDecoded (l.fn.out.items ++ l.fn.self) l.out.items (hex_pairs l.rest) × (vec_capacity l.out ≡ vec_capacity l.fn.out)

abbrev pub decreases-loop-rest : goal.decreases-loop-rest
decreases-loop-rest l = length l.rest
