use Rattle.note_laws.proofs.Fates.{ends_or_waits}
use Rattle.note_laws.proofs.admissions.lemma_a_chain_ends_or_waits.Goals as goal

pub returns : goal.returns
returns c = λ note entries text there s is next. ends_or_waits note entries text there is s next
