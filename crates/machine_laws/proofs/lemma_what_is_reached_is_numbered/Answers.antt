use Rattle.machine_laws.proofs.Numbered.{reached-numbered}
use Rattle.machine_laws.proofs.lemma_what_is_reached_is_numbered.Goals as goal

pub returns : goal.returns
returns c = reached-numbered
