use Rattle.note_laws.proofs.Staying.{all_stays}
use Rattle.note_laws.proofs.admissions.lemma_what_keeps_its_place_stays.Goals as goal

pub returns : goal.returns
returns c = λ note entries more text a b base told in_turn keep is.
    all_stays note entries more text a b in_turn base told keep is
