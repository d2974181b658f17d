use Rattle.note_laws.proofs.Others.{stays_on_others}
use Rattle.note_laws.proofs.admissions.lemma_building_on_others_lasts.Goals as goal

pub returns : goal.returns
returns c = λ note entries more text a b s base told in_turn in_turn' within next holds is.
    stays_on_others note entries more text a b in_turn in_turn' within base told s next holds is
