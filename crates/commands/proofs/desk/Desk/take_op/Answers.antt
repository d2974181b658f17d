use Rattle.operations.specs.Spelling.{spelling}
use Rattle.desk_windows.specs.Windows.{screened}
use Rattle.commands.proofs.Lifting.{take_grows}
use Rattle.commands.proofs.Steps.{take_step}
use Rattle.commands.proofs.desk.Desk.take_op.Goals as goal

pub invariant_of-self : goal.invariant_of-self
invariant_of-self c =
    c.tell.ensures.shown c.self.inside.texts c.self.invariant.0 c.self.invariant.1
    (take_grows c.self.inside.texts c.take_op-outcome.new.self c.args.text (spelling c.args.op) c.take_op-outcome.result
    c.lemma_has_text.ensures c.take_op-outcome.ensures)

pub returns : goal.returns
returns c =
    take_step c.args.self.now c.self.inside.texts c.take_op-outcome.new.self c.tell.new.texts
    (screened c.self.inside.windows) (screened c.tell.new.windows) c.self.view_is c.tell.ensures.screen c.args.text
    (spelling c.args.op) c.take_op-outcome.result c.take_op-outcome.ensures c.tell.ensures.told
