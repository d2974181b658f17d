use Rattle.kept_file.proofs.OnePacked.{first_told, other_cuts}
use Rattle.kept_file.proofs.FirstParts.{first_parts}
use Rattle.kept_file.proofs.laws.lemma_first_parts.Goals as goal

pub returns-clause-parts : goal.returns-clause-parts
returns-clause-parts c = first_parts

pub returns-clause-first : goal.returns-clause-first
returns-clause-first c = first_told

pub returns-clause-elsewhere : goal.returns-clause-elsewhere
returns-clause-elsewhere c = other_cuts
