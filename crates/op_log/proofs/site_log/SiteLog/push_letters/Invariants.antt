use Rattle.std.proofs.Common.{◌≡◌, ◌+◌, ◌++◌, length}
use Rattle.op_log.specs.Tables.{letter_entries}
use Rattle.op_log.proofs.site_log.SiteLog.push_letters.Given as goal

abbrev pub invariant-loop-k : goal.invariant-loop-k
invariant-loop-k l =
    (l.self.entries ≡ l.initial.self.entries ++ letter_entries l.first l.k)
    × (length l.self.entries ≡ length l.initial.self.entries + l.k)
    × (l.self.room + l.k ≡ l.initial.self.room)
