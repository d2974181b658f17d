use Rattle.std.proofs.lemmas.List.Elements.{All-contains}
use Rattle.waiting_room.specs.Room.{StaysWaiting}
use Rattle.convergence.proofs.handed_in.lemma_what_is_kept_is_closed.Goals as goal

pub returns : goal.returns
returns c = λ t all text keeps stay.
    c.lemma_kept_and_waiting_is_closed.ensures t.operations t.waiting_room all keeps.identified text.good keeps.kept
    (λ op held. (All-contains (StaysWaiting t.operations) t.waiting_room op stay held).1)
