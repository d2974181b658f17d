use Rattle.note_laws.proofs.Fates.{one_fate}
use Rattle.note_laws.proofs.admissions.lemma_the_next_has_one_fate.Goals as goal

pub returns : goal.returns
returns c = λ note entries text there s in_turn next. one_fate note entries text there in_turn s next.follows
