use Rattle.std.proofs.Common.{◌≡◌, ℕ, ◌+◌, ◌-◌, ◌*◌, ◌%◌, ◌<◌, ◌≤◌, drop, length}
use Rattle.rank_index.specs.declared.groups.TheConstants.{GROUP}
use Rattle.rank_index.specs.Chunks.{members_of}
use Rattle.rank_index.specs.Keyed.{IsPassed}
use Rattle.rank_index.proofs.passing.pass_groups.Given as goal

-- what is passed from here on is passed in all, and each group so far took one look
abbrev pub invariant-loop-at : goal.invariant-loop-at
invariant-loop-at l = record {
  order : l.from ≤ l.at;
  within : l.at ≤ length l.chunks;
  begins : l.at < length l.chunks → l.at % GROUP ≡ 0;
  on : (last : ℕ) → IsPassed l.keys l.key (members_of (drop l.at l.chunks)) l.last last
      → IsPassed l.keys l.key (members_of (drop l.from l.chunks)) l.tag last;
  whole : l.at < length l.chunks → GROUP * l.peeks ≤ GROUP * l.initial.peeks + l.at;
  few : GROUP * l.peeks ≤ GROUP * l.initial.peeks + l.at + GROUP;
}

abbrev pub decreases-loop-at : goal.decreases-loop-at
decreases-loop-at l = length l.chunks - l.at
