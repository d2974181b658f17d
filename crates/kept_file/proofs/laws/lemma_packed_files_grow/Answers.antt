use Rattle.kept_file.proofs.FirstParts.{files_grow, texts_grow}
use Rattle.kept_file.proofs.laws.lemma_packed_files_grow.Goals as goal

pub returns-clause-files : goal.returns-clause-files
returns-clause-files c = files_grow

pub returns-clause-texts : goal.returns-clause-texts
returns-clause-texts c = texts_grow
