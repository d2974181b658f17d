use Rattle.desk_windows.specs.Windows.{screened}
use Rattle.commands.proofs.Tasks.{forget_task, forgets_grow}
use Rattle.commands.proofs.desk.Desk.forget.Goals as goal

pub invariant_of-self : goal.invariant_of-self
invariant_of-self c =
    c.tell.ensures.shown c.self.inside.texts c.self.invariant.0 c.self.invariant.1
    (forgets_grow c.self.inside.texts c.forget-count.new.self c.args.text c.forget-count.result c.lemma_has_text.ensures
    c.forget-count.ensures)

pub returns : goal.returns
returns c =
    forget_task c.args.self.now c.self.inside.texts c.forget-count.new.self c.tell.new.texts (screened c.self.inside.windows)
    (screened c.tell.new.windows) c.args.text c.forget-count.result c.self.view_is c.forget-count.ensures
    c.tell.ensures.told c.tell.ensures.screen
