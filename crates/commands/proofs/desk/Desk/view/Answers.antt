use Rattle.machine.specs.declared.asked.View.TheVariants.{Marks, Show, Views}
use Rattle.desk_windows.specs.Windows.{screened}
use Rattle.commands.proofs.Steps.{view_step}
use Rattle.commands.proofs.desk.Desk.view.Goals as goal

pub returns-in-Views-clause-step : goal.returns-in-Views-clause-step
returns-in-Views-clause-step c = rw c.in-Views.is
    (view_step c.args.self.now c.self.inside.texts (screened c.self.inside.windows) c.self.view_is (λ lines. lines.items)
    Views c.views.result c.views.ensures.ok c.views.ensures.errors)

pub returns-in-Marks-clause-step : goal.returns-in-Marks-clause-step
returns-in-Marks-clause-step c = rw c.in-Marks.is
    (view_step c.args.self.now c.self.inside.texts (screened c.self.inside.windows) c.self.view_is (λ lines. lines.items)
    Marks c.marks.result c.marks.ensures.ok c.marks.ensures.errors)

pub returns-in-Show-clause-step : goal.returns-in-Show-clause-step
returns-in-Show-clause-step c = rw c.in-Show.is
    (view_step c.args.self.now c.self.inside.texts (screened c.self.inside.windows) c.self.view_is (λ lines. lines.items)
    Show c.show.result c.show.ensures.ok c.show.ensures.errors)
