use Rattle.convergence.proofs.OneEdit.{edit_one_way}
use Rattle.convergence.proofs.outcomes.lemma_edits_end_one_way.Goals as goal

pub returns : goal.returns
returns c = edit_one_way
