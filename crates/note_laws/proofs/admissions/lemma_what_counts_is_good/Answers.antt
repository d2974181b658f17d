use Rattle.note_laws.proofs.InTurn.{as_good_set}
use Rattle.note_laws.proofs.admissions.lemma_what_counts_is_good.Goals as goal

pub returns : goal.returns
returns c = as_good_set
