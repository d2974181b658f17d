use Rattle.std.proofs.Common.{List, Contains, sym, subst}
use Rattle.operations.specs.Operation.{Operation}
use Rattle.note_replicas.proofs.laws.lemma_what_was_admitted_was_taken.Goals as goal

pub returns : goal.returns
returns c = λ note entries t admitted is admission has. record {
  is = is;
  admitted = admitted;
  admission = admission;
  taken = λ op. (subst (λ (l : List Operation). Contains l op) has.taken, subst (λ (l : List Operation). Contains l op) (sym has.taken));
}
