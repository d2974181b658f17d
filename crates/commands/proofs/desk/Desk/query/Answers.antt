use Rattle.desk_windows.specs.Windows.{screened}
use Rattle.commands.proofs.Steps.{query_step}
use Rattle.commands.proofs.desk.Desk.query.Goals as goal

pub returns-clause-step : goal.returns-clause-step
returns-clause-step c =
    query_step c.args.self.now c.self.inside.texts (screened c.self.inside.windows) c.self.view_is (λ lines. lines.items)
    c.args.text c.args.asked c.query.result c.query.ensures.ok c.query.ensures.errors
