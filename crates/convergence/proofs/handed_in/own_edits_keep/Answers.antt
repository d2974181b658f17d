use Rattle.std.proofs.Common.{List, ◌++◌, take, subst, arith}
use Rattle.operations.specs.Operation.{Operation}
use Rattle.tree_order.specs.Good.{Good}
use Rattle.texts.specs.Edit.{after, plan}
use Rattle.texts.proofs.OwnParts.{edits_are_plain}
use Rattle.convergence.proofs.Kept.{keeps_by, kept_taking}
use Rattle.convergence.proofs.OwnOperations.{after_operations, after_room, standing_within}
use Rattle.convergence.proofs.handed_in.own_edits_keep.Goals as goal

pub returns : goal.returns
returns c = λ t e n all text within few keeps known.
    let ops : List Operation = take n (plan t e) in
    let most = standing_within t (plan t e) in
    let plain = edits_are_plain t e n text within (omega arith) in
    let good : Good (t.operations ++ ops) = subst Good (after_operations t ops) plain.text.good in
    keeps_by (after t ops) (t.operations ++ ops) t.waiting_room (all ++ ops) (after_operations t ops)
    (after_room t ops) known
    (kept_taking t.operations t.waiting_room all ops known text.good good keeps.kept)
