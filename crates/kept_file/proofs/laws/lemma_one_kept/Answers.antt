use Rattle.kept_file.proofs.KeptFiles.{one_kept}
use Rattle.kept_file.proofs.laws.lemma_one_kept.Goals as goal

pub returns : goal.returns
returns c = one_kept c.lemma_one_site.ensures c.lemma_one_packed_file.ensures
