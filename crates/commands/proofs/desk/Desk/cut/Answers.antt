use Rattle.texts.specs.Edit.{deletion}
use Rattle.desk_windows.specs.Windows.{screened}
use Rattle.commands.proofs.Lifting.{edit_grows}
use Rattle.commands.proofs.Steps.{edit_step}
use Rattle.commands.proofs.desk.Desk.cut.Goals as goal

pub invariant_of-self : goal.invariant_of-self
invariant_of-self c =
    c.tell.ensures.shown c.self.inside.texts c.self.invariant.0 c.self.invariant.1
    (edit_grows c.self.inside.texts c.cut-outcome.new.self c.args.text (deletion c.args.beg c.args.end) c.cut-outcome.result
    c.args.outbox.now c.cut-outcome.new.outbox c.lemma_has_text.ensures c.cut-outcome.ensures)

pub returns : goal.returns
returns c =
    edit_step c.args.self.now c.self.inside.texts c.cut-outcome.new.self c.tell.new.texts (screened c.self.inside.windows)
    (screened c.tell.new.windows) c.self.view_is c.tell.ensures.screen c.args.text (deletion c.args.beg c.args.end) c.cut-outcome.result
    c.args.outbox.now c.cut-outcome.new.outbox c.cut-outcome.ensures c.tell.ensures.told
