use Rattle.note_laws.proofs.Staying.{stays_wrong}
use Rattle.note_laws.proofs.admissions.lemma_wrong_is_for_good.Goals as goal

pub returns : goal.returns
returns c = λ note entries more text a b s base told in_turn in_turn' within next holds is.
    stays_wrong note entries more text a b in_turn base told in_turn' within s next holds is
