use Rattle.script_events.proofs.Spelling.{lent_plain}
use Rattle.script_events.proofs.escaped.Escaped.as_plain.Goals as goal

pub returns : goal.returns
returns c = rw (← c.self.view_is) (lent_plain (λ raw. raw.now) c.contains.result c.self.inside.raw c.then_some.result c.contains.ensures.value c.then_some.ensures)
