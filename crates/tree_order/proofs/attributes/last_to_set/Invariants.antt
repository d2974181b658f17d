use Rattle.std.proofs.Common.{take}
use Rattle.tree_order.specs.Attribute.{selects}
use Rattle.tree_order.specs.Looks.{Sets}
use Rattle.tree_order.proofs.LastLemmas.{IsLastOf}
use Rattle.tree_order.proofs.attributes.last_to_set.Given as goal

-- of the operations so far that set the attribute none has a greater key
abbrev pub invariant-loop-op : goal.invariant-loop-op
invariant-loop-op l = IsLastOf (λ o. Sets o (selects l.attribute) l.c) l.ops (take l.op-index l.ops) l.last
