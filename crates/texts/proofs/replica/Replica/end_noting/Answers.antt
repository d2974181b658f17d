use Rattle.std.proofs.Common.{ap, ◌∙◌}
use Rattle.texts.specs.Changes.{noting_ended}
use Rattle.texts.specs.TextState.{TextState}
use Rattle.texts.proofs.replica.Replica.end_noting.Goals as goal

pub returns : goal.returns
returns c = c.let_notes_go.ensures ∙ ap (λ (t : TextState). noting_ended t c.args.shown) c.self.view_is
