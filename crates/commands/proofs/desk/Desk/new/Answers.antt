use Rattle.std.proofs.Common.{sym, subst}
use Rattle.commands.proofs.Following.{new_is_told}
use Rattle.commands.specs.Steps.{AreTold}
use Rattle.commands.proofs.desk.Desk.new.Goals as goal

pub invariant_of-result : goal.invariant_of-result
invariant_of-result c =
    (c.in_ok-new-2.ensures.of c.in_ok-new.field-0, subst AreTold (sym c.in_ok-new.ensures.ok) (new_is_told c.args.site))
