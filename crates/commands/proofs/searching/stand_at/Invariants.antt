use Rattle.std.proofs.Common.{◌≡◌, ℕ, ◌+◌, ◌<◌, get_or}
use Rattle.machine.specs.Windows.{bytes_shown}
use Rattle.commands.proofs.searching.stand_at.Given as goal

abbrev pub invariant-loop-i : goal.invariant-loop-i
invariant-loop-i l =
    (k : ℕ) → k < l.i → get_or (bytes_shown l.replica) (l.pos + k) 0 ≡ get_or l.bytes k 0
