use Rattle.operations.proofs.ReadLooks.{looks_are_determined}
use Rattle.operations.proofs.ReadMessages.{nothing_follows, same_operation}
use Rattle.operations.proofs.reading.lemma_one_spelling.Goals as goal

pub returns-clause-prefix : goal.returns-clause-prefix
returns-clause-prefix c = nothing_follows

pub returns-clause-one : goal.returns-clause-one
returns-clause-one c = same_operation

pub returns-clause-looks : goal.returns-clause-looks
returns-clause-looks c = looks_are_determined
