use Rattle.std.proofs.Common.{List, Contains, sym, subst}
use Rattle.operations.specs.Operation.{Operation}
use Rattle.set_laws.specs.Fronts.{IsHeld}
use Rattle.waiting_room.proofs.good_log.GoodLogHeld.op_stamp.Goals as goal

pub op_stamp-requires : goal.op_stamp-requires
op_stamp-requires c =
    subst (λ (ops : List Operation). IsHeld ops c.args.site c.args.seq) (sym c.self.view_is) c.requires

pub returns : goal.returns
returns c = λ p held on at.
    c.op_stamp.ensures p (subst (λ (ops : List Operation). Contains ops p) (sym c.self.view_is) held) on at
