use Rattle.note_replicas.proofs.Counting.{ready_in_turn}
use Rattle.note_replicas.proofs.laws.what_counts_in_turn_is_ready.Goals as goal

pub returns : goal.returns
returns c = ready_in_turn
