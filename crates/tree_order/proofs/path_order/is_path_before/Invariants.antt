use Rattle.std.proofs.Common.{◌≡◌, take}
use Rattle.tree_order.proofs.path_order.is_path_before.Given as goal

abbrev pub invariant-loop-i : goal.invariant-loop-i
invariant-loop-i l = take l.i l.p ≡ take l.i l.q
