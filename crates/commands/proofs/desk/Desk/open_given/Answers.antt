use Rattle.std.proofs.Common.{Err, None}
use Rattle.looks.specs.declared.refusal.Refusal.TheVariants.{BadParameter}
use Rattle.texts.specs.declared.edit_refusal.EditRefusal.TheVariants.{Whole}
use Rattle.machine.specs.Events.{Task, arrange}
use Rattle.machine.specs.declared.asked.Arrangement.TheVariants.{Open}
use Rattle.commands.proofs.Tasks.{refused_task, untold}
use Rattle.commands.specs.Steps.{IsTaskStep}
use Rattle.commands.proofs.desk.Desk.open_given.Goals as goal

pub returns-in_default : goal.returns-in_default
returns-in_default c =
    untold (λ (task : Task). IsTaskStep c.args.self.now task (Err (Whole BadParameter)) c.args.self.now) c.args.text
    (λ n. arrange (Open c.args.track n None)) c.in_default.is (refused_task c.args.self.now BadParameter)
