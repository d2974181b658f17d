use Rattle.std.proofs.Common.{map}
use Rattle.looks.specs.Looks.{plain_looks}
use Rattle.texts.specs.Edit.{insertion}
use Rattle.desk_windows.specs.Windows.{screened}
use Rattle.commands.proofs.Lifting.{edit_grows}
use Rattle.commands.proofs.Steps.{edit_step}
use Rattle.commands.proofs.desk.Desk.type_in.Goals as goal

pub invariant_of-self : goal.invariant_of-self
invariant_of-self c =
    c.tell.ensures.shown c.self.inside.texts c.self.invariant.0 c.self.invariant.1
    (edit_grows c.self.inside.texts c.type_in-outcome.new.self c.args.text (insertion c.args.pos (map (λ b. (b, plain_looks)) c.args.bytes.now)) c.type_in-outcome.result
    c.args.outbox.now c.type_in-outcome.new.outbox c.lemma_has_text.ensures c.type_in-outcome.ensures)

pub returns-clause-step : goal.returns-clause-step
returns-clause-step c = λ short.
    edit_step c.args.self.now c.self.inside.texts c.type_in-outcome.new.self c.tell.new.texts (screened c.self.inside.windows)
    (screened c.tell.new.windows) c.self.view_is c.tell.ensures.screen c.args.text (insertion c.args.pos (map (λ b. (b, plain_looks)) c.args.bytes.now)) c.type_in-outcome.result
    c.args.outbox.now c.type_in-outcome.new.outbox c.type_in-outcome.ensures c.tell.ensures.told
