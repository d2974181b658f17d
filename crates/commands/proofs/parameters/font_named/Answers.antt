use Rattle.commands.proofs.Fonts.{font_named}
use Rattle.commands.proofs.parameters.font_named.Goals as goal

pub returns : goal.returns
returns c = font_named c.args.name.now c.new.result c.new.ensures.valid c.new.ensures.value
