use Rattle.std.proofs.Common.{◌≡◌, ◌+◌, ◌*◌, ◌^◌, List, ◌∷◌}
use Rattle.std.specs.Prelude.{reverse}
use Rattle.char_files.specs.CharName.{CharName}
use Rattle.char_files.specs.declared.name.Anchor.TheVariants.{At}
use Rattle.tree_order.specs.Tree.{IsInsertOf, LeadsDown}
use Rattle.tree_order.proofs.path_order.path_of.Given as goal

-- turned round, the characters so far lead from this one down to c
abbrev pub invariant-loop-parent : goal.invariant-loop-parent
invariant-loop-parent l = record {
  insert : IsInsertOf l.ops l.name l.op;
  rest : List CharName;
  so_far : reverse l.names.items ≡ l.name ∷ rest;
  leads : LeadsDown l.ops (At l.name) rest (At l.fn.c);
}

abbrev pub decreases-loop-parent : goal.decreases-loop-parent
decreases-loop-parent l = l.op.stamp * 2 ^ 24 + l.name.off
