use Rattle.std.proofs.Common.{take}
use Rattle.std.specs.Prelude.{IfSome, IfNone}
use Rattle.tree_order.specs.Shown.{SwitchesBy}
use Rattle.tree_order.proofs.LastLemmas.{IsLastOf, NoneSets}
use Rattle.tree_order.proofs.showing.last_to_switch.Given as goal

-- of the operations so far that hide or show the character again none has a greater key
abbrev pub invariant-loop-op : goal.invariant-loop-op
invariant-loop-op l = record {
  some : IfSome l.last (λ op. IsLastOf (λ o. SwitchesBy o.kind l.c) l.ops (take l.op-index l.ops) op.now);
  none : IfNone l.last (NoneSets (λ o. SwitchesBy o.kind l.c) (take l.op-index l.ops));
}
