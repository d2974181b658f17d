use Rattle.machine_laws.proofs.AnyFiles.{same_over_any_files}
use Rattle.machine_laws.proofs.any_files_will_do.Goals as goal

pub returns : goal.returns
returns c = same_over_any_files
