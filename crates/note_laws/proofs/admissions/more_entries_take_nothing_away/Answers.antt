use Rattle.note_laws.proofs.Adding.{places_stay}
use Rattle.note_laws.proofs.Staying.{all_stays}
use Rattle.note_laws.proofs.admissions.more_entries_take_nothing_away.Goals as goal

pub returns : goal.returns
returns c = λ note entries more text a b base told adds is is'.
    all_stays note entries more text a b is.in_turn base told
    (places_stay note entries more text a adds is.in_turn) is'
