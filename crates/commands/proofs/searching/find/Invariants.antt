use Rattle.std.proofs.Common.{ℕ, ◌<◌, ◌≤◌}
use Rattle.machine.specs.Tasks.{StandsAt}
use Rattle.machine.specs.Windows.{bytes_shown}
use Rattle.commands.proofs.searching.find.Given as goal

abbrev pub invariant-loop-pos : goal.invariant-loop-pos
invariant-loop-pos l =
    (q : ℕ) → l.from ≤ q → q < l.pos → StandsAt l.bytes (bytes_shown l.replica) q → ⊥
