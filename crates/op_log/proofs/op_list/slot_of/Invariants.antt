use Rattle.std.proofs.Common.{ℕ, ◌-◌, ◌<◌, ◌≤◌, get_or, length}
use Rattle.op_log.proofs.op_list.slot_of.Given as goal

abbrev pub invariant-loop-high : goal.invariant-loop-high
invariant-loop-high l = (l.low < l.high) × (l.high ≤ length l.firsts) × ((d : ℕ) → get_or l.firsts l.low d ≤ l.at)
    × ((d : ℕ) → l.high < length l.firsts → l.at < get_or l.firsts l.high d)

abbrev pub decreases-loop-high : goal.decreases-loop-high
decreases-loop-high l = l.high - l.low
