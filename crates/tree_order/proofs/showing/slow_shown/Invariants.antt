use Rattle.std.proofs.Common.{◌≡◌, take, map, All}
use Rattle.std.specs.Prelude.{filter}
use Rattle.tree_order.specs.Tree.{HasByte}
use Rattle.tree_order.specs.Looks.{HasLooks}
use Rattle.tree_order.specs.Shown.{is_visible}
use Rattle.tree_order.proofs.showing.slow_shown.Given as goal

-- the visible ones of the characters so far are shown
abbrev pub invariant-loop-name : goal.invariant-loop-name
invariant-loop-name l = record {
  visible : map (λ s. s.name) l.shown.items ≡ filter (is_visible l.ops) (take l.name-index l.name-items);
  bytes : All (λ s. HasByte l.ops s.name s.byte) l.shown.items;
  looks : All (λ s. HasLooks l.ops s.name s.looks) l.shown.items;
}
