use Rattle.script_events.proofs.LooksValues.{font_in-found}
use Rattle.script_events.proofs.event.looks_words.font_in.Goals as goal

pub returns : goal.returns
returns c = font_in-found c.new.result c.args.word.now c.new.ensures.valid c.new.ensures.value
