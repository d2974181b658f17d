use Rattle.std.proofs.Common.{◌≡◌, ◌-◌, ◌*◌, ◌<◌, ◌≤◌, length, vec_capacity}
use Rattle.rank_index.specs.declared.groups.TheConstants.{GROUP}
use Rattle.rank_index.specs.Groups.{AreLowsSoFar}
use Rattle.rank_index.proofs.groups.find_lows.Given as goal

abbrev pub invariant-loop-done : goal.invariant-loop-done
invariant-loop-done l = record {
  told : AreLowsSoFar l.lows.items l.chunks;
  within : l.done ≤ length l.chunks;
  all : l.done ≤ GROUP * length l.lows.items;
  few : length l.lows.items ≤ l.done;
  whole : l.done < length l.chunks → l.done ≡ GROUP * length l.lows.items;
  room : vec_capacity l.fn.lows ≤ vec_capacity l.lows;
}

abbrev pub decreases-loop-done : goal.decreases-loop-done
decreases-loop-done l = length l.chunks - l.done
