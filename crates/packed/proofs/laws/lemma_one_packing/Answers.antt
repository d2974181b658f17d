use Rattle.packed.proofs.PackedLists.{adds_at_the_end, next_is_determined, beginnings_are_histories, none_are_packed_alike}
use Rattle.packed.proofs.laws.lemma_one_packing.Goals as goal

pub returns-clause-grows : goal.returns-clause-grows
returns-clause-grows c = adds_at_the_end

pub returns-clause-next : goal.returns-clause-next
returns-clause-next c = next_is_determined

pub returns-clause-beginnings : goal.returns-clause-beginnings
returns-clause-beginnings c = beginnings_are_histories

pub returns-clause-one : goal.returns-clause-one
returns-clause-one c = none_are_packed_alike
