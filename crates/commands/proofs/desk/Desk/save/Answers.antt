use Rattle.desk_windows.specs.Windows.{screened}
use Rattle.commands.proofs.Lifting.{copy_grows}
use Rattle.commands.proofs.Steps.{copy_step}
use Rattle.commands.proofs.desk.Desk.save.Goals as goal

pub invariant_of-self : goal.invariant_of-self
invariant_of-self c =
    c.tell.ensures.shown c.self.inside.texts c.self.invariant.0 c.self.invariant.1
    (copy_grows c.self.inside.texts c.save-outcome.new.self c.args.text c.args.beg c.args.end c.args.other c.args.pos
    c.save-outcome.result c.args.outbox.now c.save-outcome.new.outbox c.lemma_has_text.ensures c.save-outcome.ensures)

pub returns : goal.returns
returns c =
    copy_step c.args.self.now c.self.inside.texts c.save-outcome.new.self c.tell.new.texts (screened c.self.inside.windows)
    (screened c.tell.new.windows) c.self.view_is c.tell.ensures.screen c.args.text c.args.beg c.args.end c.args.other
    c.args.pos c.save-outcome.result c.args.outbox.now c.save-outcome.new.outbox c.save-outcome.ensures c.tell.ensures.told
