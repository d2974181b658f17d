use Rattle.std.proofs.Common.{None, refl}
use Rattle.machine.specs.declared.asked.Arrangement.TheVariants.{Point}
use Rattle.commands.proofs.Steps.{arrange_step}
use Rattle.commands.specs.Steps.{done_reply}
use Rattle.commands.proofs.desk.Desk.point.Goals as goal

pub returns : goal.returns
returns c =
    arrange_step c.args.self.now c.self.inside.texts c.self.inside.windows c.point.new.self c.self.view_is
    (Point (record { col = c.args.col; row = c.args.row })) (λ _. None) done_reply (λ _. refl) (λ why. refl) c.point.result c.point.ensures.comes
