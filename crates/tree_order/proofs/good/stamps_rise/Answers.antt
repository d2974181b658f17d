use Rattle.std.proofs.Common.{rules, tests}
use Rattle.std.proofs.lemmas.Iterator.{cases_from_all, YieldsList-from_slice}
use Rattle.tree_order.specs.GoodEach.{IsAboveEachCause}
use Rattle.tree_order.proofs.Each.{each}
use Rattle.tree_order.proofs.good.stamps_rise.Goals as goal

pub returns : goal.returns
returns c =
    let ops = c.args.ops.now in
    each (IsAboveEachCause ops) ops c.all.result
    (cases_from_all _ _ _ (IsAboveEachCause ops) (λ op. ¬ IsAboveEachCause ops op) c.all.ensures.ran
    (YieldsList-from_slice ops cc) (λ x q k. search (rules, tests)) (λ x q k. search (rules, tests)))
