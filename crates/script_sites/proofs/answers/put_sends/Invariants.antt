use Rattle.std.proofs.Common.{◌+◌, ◌-◌, take, drop}
use Rattle.std.specs.Io.KnownBytes.{Appends}
use Rattle.script_sites.specs.Answers.{send_lines}
use Rattle.script_sites.proofs.answers.put_sends.Given as goal

abbrev pub invariant-loop-index : goal.invariant-loop-index
invariant-loop-index g l = Appends l.fn.output.contents l.output.contents (send_lines (l.before + l.from) (take (l.index - l.from) (drop l.from l.outbox)))
