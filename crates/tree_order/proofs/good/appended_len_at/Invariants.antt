use Rattle.std.proofs.Common.{◌≡◌, drop}
use Rattle.tree_order.specs.Good.{appended_len_at}
use Rattle.tree_order.proofs.good.appended_len_at.Given as goal

abbrev pub invariant-loop-op : goal.invariant-loop-op
invariant-loop-op l = appended_len_at (drop l.op-index l.ops) l.site l.seq
    ≡ appended_len_at l.ops l.site l.seq
