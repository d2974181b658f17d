use Rattle.std.proofs.Common.{◌≡◌, ◌+◌, ◌≤◌}
use Rattle.tree_order.specs.Shown.{is_visible}
use Rattle.tree_order.proofs.ShownLemmas.{count_from}
use Rattle.tree_order.proofs.showing.slow_place.Given as goal

-- so many are counted, and so many are left to count
abbrev pub invariant-loop-other : goal.invariant-loop-other
invariant-loop-other l = record {
  few : l.place ≤ l.other-index;
  counted : l.place + count_from (is_visible l.ops) l.c l.other-items l.other-index
      ≡ count_from (is_visible l.ops) l.c l.other-items 0;
}
