use Rattle.set_laws.proofs.Closing.{kept_closed}
use Rattle.set_laws.proofs.closures.lemma_kept_and_waiting_is_closed.Goals as goal

pub returns : goal.returns
returns c = λ taken waiting all known. kept_closed all known taken waiting
