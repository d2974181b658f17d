use Rattle.texts.proofs.NamedShown.{named_edits_are_plain}
use Rattle.texts.proofs.laws.edits_by_names_are_plain.Goals as goal

pub returns : goal.returns
returns c = named_edits_are_plain
