use Rattle.std.proofs.Common.{rules}
use Rattle.tree_order.specs.Tree.{IsInsertOf}
use Rattle.tree_order.proofs.Turns.{HasGreaterKey_iff}
use Rattle.tree_order.proofs.path_order.has_greater_key.Goals as goal

pub returns : goal.returns
returns c =
    let ops = c.args.ops.now in
    let i = c.unwrap-first.result.now in
    let j = c.unwrap-second.result.now in
    let is_i : IsInsertOf ops c.args.c i = search rules in
    let is_j : IsInsertOf ops c.args.d j = search rules in
    rw c.is_key_below.ensures (HasGreaterKey_iff ops c.requires.good c.args.c c.args.d i j is_i is_j)
