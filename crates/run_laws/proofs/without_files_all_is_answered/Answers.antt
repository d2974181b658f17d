use Rattle.run_laws.proofs.WithoutFiles.{all_is_told}
use Rattle.run_laws.proofs.without_files_all_is_answered.Goals as goal

pub returns : goal.returns
returns c = all_is_told c.any_files_will_do.ensures
