use Rattle.std.proofs.Common.{ℕ, ◌+◌, ◌-◌, ◌<◌, ◌≤◌, take, drop}
use Rattle.rank_index.specs.Chunks.{members_of}
use Rattle.rank_index.specs.Groups.{least_among}
use Rattle.rank_index.specs.Keyed.{IsPassed}
use Rattle.rank_index.proofs.passing.pass_chunks.Given as goal

-- what is passed from here on is passed in all, and each chunk so far took one look
abbrev pub invariant-loop-slot : goal.invariant-loop-slot
invariant-loop-slot l = record {
  on : (last : ℕ) → IsPassed l.keys l.key (members_of (drop l.slot l.chunks)) l.last last
      → IsPassed l.keys l.key (members_of (drop l.from l.chunks)) l.tag last;
  above : l.from < l.slot → l.key < least_among (take (l.slot - l.from) (drop l.from l.chunks));
  few : l.peeks ≤ l.initial.peeks + (l.slot - l.from);
}
