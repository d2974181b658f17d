use Rattle.tree_order.proofs.path_order.slow_before.Goals as goal

pub returns-clause-ok : goal.returns-clause-ok
returns-clause-ok c =
    rw (c.in_ok-first.ensures.path.0, c.in_ok-second.ensures.path.0) at c.is_before.ensures
