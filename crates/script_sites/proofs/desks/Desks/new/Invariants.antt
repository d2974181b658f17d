use Rattle.std.proofs.Common.{◌≡◌, map}
use Rattle.std.specs.List.{range_with_len}
use Rattle.machine.specs.Windows.{blank_screen}
use Rattle.script_sites.proofs.Standing.{new_seen}
use Rattle.script_sites.proofs.desks.Desks.new.Given as goal

abbrev pub invariant-loop-i : goal.invariant-loop-i
invariant-loop-i l = l.desks.items ≡ map (new_seen (blank_screen l.width l.height)) (range_with_len l.first l.i)
