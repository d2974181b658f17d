use Rattle.texts.proofs.OwnParts.{edits_are_plain}
use Rattle.texts.proofs.laws.lemma_own_edits_are_plain.Goals as goal

pub returns : goal.returns
returns c = edits_are_plain
