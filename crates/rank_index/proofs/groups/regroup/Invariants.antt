use Rattle.std.proofs.Common.{◌≡◌, ◌-◌, ◌*◌, ◌<◌, ◌≤◌, length, vec_capacity}
use Rattle.rank_index.specs.declared.groups.TheConstants.{GROUP}
use Rattle.rank_index.specs.Groups.{AreSums}
use Rattle.rank_index.proofs.groups.regroup.Given as goal

abbrev pub invariant-loop-done : goal.invariant-loop-done
invariant-loop-done l = record {
  sums : AreSums l.groups.items l.chunks;
  within : l.done ≤ length l.chunks;
  all : l.done ≤ GROUP * length l.groups.items;
  few : length l.groups.items ≤ l.done;
  whole : l.done < length l.chunks → l.done ≡ GROUP * length l.groups.items;
  room : vec_capacity l.fn.groups ≤ vec_capacity l.groups;
}

abbrev pub decreases-loop-done : goal.decreases-loop-done
decreases-loop-done l = length l.chunks - l.done
