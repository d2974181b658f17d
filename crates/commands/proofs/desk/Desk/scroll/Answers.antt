use Rattle.std.proofs.Common.{None, refl}
use Rattle.machine.specs.declared.asked.Arrangement.TheVariants.{Scroll}
use Rattle.commands.proofs.Steps.{arrange_step}
use Rattle.commands.specs.Steps.{done_reply}
use Rattle.commands.proofs.desk.Desk.scroll.Goals as goal

pub returns : goal.returns
returns c =
    arrange_step c.args.self.now c.self.inside.texts c.self.inside.windows c.scroll.new.self c.self.view_is
    (Scroll c.args.viewer c.args.line) (λ _. None) done_reply (λ _. refl) (λ why. refl) c.scroll.result c.scroll.ensures.comes
