use Rattle.texts.specs.Edit.{looks_change}
use Rattle.desk_windows.specs.Windows.{screened}
use Rattle.commands.proofs.Lifting.{edit_grows}
use Rattle.commands.proofs.Steps.{edit_step}
use Rattle.commands.proofs.desk.Desk.looks.Goals as goal

pub invariant_of-self : goal.invariant_of-self
invariant_of-self c =
    c.tell.ensures.shown c.self.inside.texts c.self.invariant.0 c.self.invariant.1
    (edit_grows c.self.inside.texts c.change_looks-outcome.new.self c.args.text (looks_change c.args.beg c.args.end c.args.sel c.args.looks.now) c.change_looks-outcome.result
    c.args.outbox.now c.change_looks-outcome.new.outbox c.lemma_has_text.ensures c.change_looks-outcome.ensures)

pub returns : goal.returns
returns c =
    edit_step c.args.self.now c.self.inside.texts c.change_looks-outcome.new.self c.tell.new.texts (screened c.self.inside.windows)
    (screened c.tell.new.windows) c.self.view_is c.tell.ensures.screen c.args.text (looks_change c.args.beg c.args.end c.args.sel c.args.looks.now) c.change_looks-outcome.result
    c.args.outbox.now c.change_looks-outcome.new.outbox c.change_looks-outcome.ensures c.tell.ensures.told
