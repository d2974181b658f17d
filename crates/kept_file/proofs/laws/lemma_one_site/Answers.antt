use Rattle.kept_file.proofs.OneSite.{lemma_one_site}
use Rattle.kept_file.proofs.laws.lemma_one_site.Goals as goal

pub returns : goal.returns
returns c = lemma_one_site
