use Rattle.operations.proofs.SetOf.{names_determine_the_set, IsSet-set_of, IsAmong-set_of}
use Rattle.operations.proofs.laws.sets_are_determined_by_their_names.Goals as goal

pub returns-clause-of : goal.returns-clause-of
returns-clause-of c = λ names. (λ all. IsSet-set_of names all, λ c. IsAmong-set_of names c)

pub returns-clause-only : goal.returns-clause-only
returns-clause-only c = names_determine_the_set
