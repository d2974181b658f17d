use Rattle.std.proofs.Common.{rules, tests, List, refl}
use Rattle.std.proofs.lemmas.Iterator.{cases_from_all}
use Rattle.std.proofs.lemmas.Iterator.Consumers.{YieldsList-from_first}
use Rattle.char_files.specs.CharName.{CharName}
use Rattle.operations.specs.Operation.{Mentions}
use Rattle.tree_order.specs.Tree.{IsChar}
use Rattle.tree_order.proofs.Each.{each_name}
use Rattle.tree_order.proofs.good.mentions_characters.Goals as goal

pub returns : goal.returns
returns c =
    let ops = c.args.ops.now in
    let names = YieldsList-from_first (λ (name : CharName). name) (λ (rest : List CharName). rest)
    c.named.result refl in
    each_name (IsChar ops) (Mentions c.args.op.now) c.named.result c.all.result c.named.ensures.all
    (cases_from_all _ _ _ (IsChar ops) (λ name. ¬ IsChar ops name) c.all.ensures.ran names
    (λ x q k. search (rules, tests)) (λ x q k. search (rules, tests)))
