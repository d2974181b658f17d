use Rattle.kept_file.proofs.OnePacked.{one_packed}
use Rattle.kept_file.proofs.laws.lemma_one_packed_file.Goals as goal

pub returns : goal.returns
returns c = one_packed
