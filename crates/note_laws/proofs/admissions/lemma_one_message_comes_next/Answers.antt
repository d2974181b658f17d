use Rattle.note_laws.proofs.Places.{one_next}
use Rattle.note_laws.proofs.admissions.lemma_one_message_comes_next.Goals as goal

pub returns : goal.returns
returns c = λ note entries text there base told in_turn. one_next note entries text there in_turn base told
