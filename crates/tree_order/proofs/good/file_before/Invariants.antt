use Rattle.std.proofs.Common.{◌≡◌, ◌*◌, ◌≤◌}
use Rattle.tree_order.specs.Good.{file_before}
use Rattle.operations.specs.declared.kind.TheConstants.{MAX_INSERT}
use Rattle.tree_order.proofs.good.file_before.Given as goal

abbrev pub invariant-loop-earlier : goal.invariant-loop-earlier
invariant-loop-earlier l = (l.len ≡ file_before l.ops l.site l.earlier) × (l.len ≤ MAX_INSERT * l.earlier)
