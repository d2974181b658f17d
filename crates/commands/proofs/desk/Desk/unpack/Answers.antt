use Rattle.desk_windows.specs.Windows.{screened}
use Rattle.commands.proofs.Lifting.{unpack_grows}
use Rattle.commands.proofs.Steps.{unpack_step}
use Rattle.commands.proofs.desk.Desk.unpack.Goals as goal

pub invariant_of-self : goal.invariant_of-self
invariant_of-self c =
    c.tell.ensures.shown c.self.inside.texts c.self.invariant.0 c.self.invariant.1
    (unpack_grows c.self.inside.texts c.unpack-outcome.new.self c.args.text c.args.chunk.now c.unpack-outcome.result
    c.lemma_has_text.ensures c.unpack-outcome.ensures)

pub returns : goal.returns
returns c =
    unpack_step c.args.self.now c.self.inside.texts c.unpack-outcome.new.self c.tell.new.texts
    (screened c.self.inside.windows) (screened c.tell.new.windows) c.self.view_is c.tell.ensures.screen c.args.text
    c.args.chunk.now c.unpack-outcome.result c.unpack-outcome.ensures c.tell.ensures.told
