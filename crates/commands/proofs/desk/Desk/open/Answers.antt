use Rattle.commands.proofs.Steps.{open_step}
use Rattle.commands.proofs.desk.Desk.open.Goals as goal

pub returns : goal.returns
returns c =
    open_step c.args.self.now c.self.inside.texts c.self.inside.windows c.open.new.self c.self.view_is c.args.track
    c.args.text c.args.row c.open.result c.open.ensures.comes
