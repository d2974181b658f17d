use Rattle.std.proofs.Common.{not, ap, ◌∙◌, sym}
use Rattle.tree_order.proofs.Visibility.{untouched, decided}
use Rattle.tree_order.proofs.showing.is_visible.Goals as goal

pub returns-in-None : goal.returns-in-None
returns-in-None c = sym (untouched c.args.ops.now c.args.c c.in-None.ensures.none)

pub returns-in-Some : goal.returns-in-Some
returns-in-Some c =
    ap not c.is_delete.ensures
    ∙ sym (decided c.args.ops.now c.requires c.args.c c.in-Some.last.now c.in-Some.ensures.some)
