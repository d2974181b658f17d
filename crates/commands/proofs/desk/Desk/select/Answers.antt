use Rattle.std.proofs.Common.{None, refl}
use Rattle.machine.specs.declared.asked.Arrangement.TheVariants.{Select}
use Rattle.commands.proofs.Steps.{arrange_step}
use Rattle.commands.specs.Steps.{done_reply}
use Rattle.commands.proofs.desk.Desk.select.Goals as goal

pub returns : goal.returns
returns c =
    arrange_step c.args.self.now c.self.inside.texts c.self.inside.windows c.select.new.self c.self.view_is
    (Select (record { col = c.args.beg.0; row = c.args.beg.1 }) (record { col = c.args.end.0; row = c.args.end.1 })) (λ _. None) done_reply (λ _. refl) (λ why. refl) c.select.result c.select.ensures.comes
