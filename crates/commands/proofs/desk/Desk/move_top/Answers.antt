use Rattle.std.proofs.Common.{None, refl}
use Rattle.machine.specs.declared.asked.Arrangement.TheVariants.{Move}
use Rattle.commands.proofs.Steps.{arrange_step}
use Rattle.commands.specs.Steps.{done_reply}
use Rattle.commands.proofs.desk.Desk.move_top.Goals as goal

pub returns : goal.returns
returns c =
    arrange_step c.args.self.now c.self.inside.texts c.self.inside.windows c.move_top.new.self c.self.view_is
    (Move c.args.viewer c.args.row) (λ _. None) done_reply (λ _. refl) (λ why. refl) c.move_top.result c.move_top.ensures.comes
