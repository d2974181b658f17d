use Rattle.note_laws.proofs.Alike.{alike}
use Rattle.note_laws.proofs.admissions.the_entries_determine_the_admission.Goals as goal

pub returns : goal.returns
returns c = alike c.lemma_only_the_set_counts.ensures
