use Rattle.convergence.proofs.Alike.{nothing_new}
use Rattle.convergence.proofs.headline.lemma_what_waits_shows_nothing.Goals as goal

pub returns : goal.returns
returns c = nothing_new
