use Rattle.std.proofs.Common.{subst}
use Rattle.operations.specs.NameSet.{IsRange, IsSet}
use Rattle.operations.proofs.WithName.{IsSet-with_name, IsAmong-with_name}
use Rattle.operations.proofs.name_set.NameSet.lemma_with_name.Goals as goal

pub returns-clause-set : goal.returns-clause-set
returns-clause-set c =
    IsSet-with_name c.args.self.now c.args.name (subst IsRange c.of.ensures.value c.of.ensures.range)
    (subst IsSet c.self.view_is c.self.invariant.0)

pub returns-clause-names : goal.returns-clause-names
returns-clause-names c = λ other. IsAmong-with_name c.args.self.now c.args.name other
