use Rattle.desk_windows.specs.Windows.{screened}
use Rattle.commands.proofs.Lifting.{settle_grows}
use Rattle.commands.proofs.Steps.{settle_step}
use Rattle.commands.proofs.desk.Desk.settle.Goals as goal

pub invariant_of-self : goal.invariant_of-self
invariant_of-self c =
    c.tell.ensures.shown c.self.inside.texts c.self.invariant.0 c.self.invariant.1
    (settle_grows c.self.inside.texts c.settle-outcome.new.self c.args.text c.settle-outcome.result.drained
    c.settle-outcome.result.dropped c.settle-outcome.result.stopped c.lemma_has_text.ensures c.settle-outcome.ensures)

pub returns : goal.returns
returns c =
    settle_step c.args.self.now c.self.inside.texts c.settle-outcome.new.self c.tell.new.texts
    (screened c.self.inside.windows) (screened c.tell.new.windows) c.self.view_is c.tell.ensures.screen c.args.text
    c.settle-outcome.result.drained c.settle-outcome.result.dropped c.settle-outcome.result.stopped c.settle-outcome.ensures
    c.tell.ensures.told
