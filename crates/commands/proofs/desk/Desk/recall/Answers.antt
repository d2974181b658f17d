use Rattle.texts.specs.Edit.{recalling}
use Rattle.desk_windows.specs.Windows.{screened}
use Rattle.commands.proofs.Lifting.{edit_grows}
use Rattle.commands.proofs.Steps.{edit_step}
use Rattle.commands.proofs.desk.Desk.recall.Goals as goal

pub invariant_of-self : goal.invariant_of-self
invariant_of-self c =
    c.tell.ensures.shown c.self.inside.texts c.self.invariant.0 c.self.invariant.1
    (edit_grows c.self.inside.texts c.recall-outcome.new.self c.args.text (recalling c.args.pos) c.recall-outcome.result
    c.args.outbox.now c.recall-outcome.new.outbox c.lemma_has_text.ensures c.recall-outcome.ensures)

pub returns : goal.returns
returns c =
    edit_step c.args.self.now c.self.inside.texts c.recall-outcome.new.self c.tell.new.texts (screened c.self.inside.windows)
    (screened c.tell.new.windows) c.self.view_is c.tell.ensures.screen c.args.text (recalling c.args.pos) c.recall-outcome.result
    c.args.outbox.now c.recall-outcome.new.outbox c.recall-outcome.ensures c.tell.ensures.told
