use Rattle.std.proofs.Common.{None, refl}
use Rattle.machine.specs.declared.asked.Arrangement.TheVariants.{Close}
use Rattle.commands.proofs.Steps.{arrange_step}
use Rattle.commands.specs.Steps.{done_reply}
use Rattle.commands.proofs.desk.Desk.close.Goals as goal

pub returns : goal.returns
returns c =
    arrange_step c.args.self.now c.self.inside.texts c.self.inside.windows c.close.new.self c.self.view_is
    (Close c.args.viewer) (λ _. None) done_reply (λ _. refl) (λ why. refl) c.close.result c.close.ensures.comes
