use Rattle.std.proofs.Common.{◌≡◌, take}
use Rattle.machine.specs.Since.{message_lines}
use Rattle.texts.specs.Fronts.{beyond}
use Rattle.desk_texts.proofs.since.since_lines.Given as goal

abbrev pub invariant-loop-place : goal.invariant-loop-place
invariant-loop-place l = l.lines.items ≡ message_lines (beyond l.fronts (take l.place l.replica.operations))
