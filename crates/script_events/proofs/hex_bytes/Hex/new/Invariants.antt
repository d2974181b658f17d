use Rattle.std.proofs.Common.{length}
use Rattle.script_events.proofs.HexPairs.{IsChecked}
use Rattle.script_events.proofs.hex_bytes.Hex.new.Given as goal

abbrev pub invariant-loop-rest : goal.invariant-loop-rest
invariant-loop-rest l = IsChecked l.raw l.rest

abbrev pub decreases-loop-rest : goal.decreases-loop-rest
decreases-loop-rest l = length l.rest
