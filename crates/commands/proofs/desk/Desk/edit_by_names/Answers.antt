use Rattle.desk_windows.specs.Windows.{screened}
use Rattle.commands.proofs.Lifting.{named_edit_grows}
use Rattle.commands.proofs.Steps.{named_edit_step}
use Rattle.commands.proofs.desk.Desk.edit_by_names.Goals as goal

pub invariant_of-self : goal.invariant_of-self
invariant_of-self c =
    c.tell.ensures.shown c.self.inside.texts c.self.invariant.0 c.self.invariant.1
    (named_edit_grows c.self.inside.texts c.edit_by_names-outcome.new.self c.args.text c.args.what c.args.names.now
    c.edit_by_names-outcome.result c.args.outbox.now c.edit_by_names-outcome.new.outbox c.lemma_has_text.ensures
    c.edit_by_names-outcome.ensures)

pub returns : goal.returns
returns c =
    named_edit_step c.args.self.now c.self.inside.texts c.edit_by_names-outcome.new.self c.tell.new.texts
    (screened c.self.inside.windows) (screened c.tell.new.windows) c.self.view_is c.tell.ensures.screen c.args.text c.args.what
    c.args.names.now c.edit_by_names-outcome.result c.args.outbox.now c.edit_by_names-outcome.new.outbox
    c.edit_by_names-outcome.ensures c.tell.ensures.told
