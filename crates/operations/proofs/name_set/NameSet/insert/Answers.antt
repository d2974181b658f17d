use Rattle.std.proofs.Common.{subst}
use Rattle.operations.specs.NameSet.{IsRange}
use Rattle.operations.proofs.WithName.{set_after}
use Rattle.operations.proofs.name_set.NameSet.insert.Goals as goal

pub invariant_of-self : goal.invariant_of-self
invariant_of-self c =
    set_after c.insert_name.result c.self.inside.ranges.items c.insert_name.new.ranges.items c.args.name
    (subst IsRange c.of.ensures.value c.of.ensures.range) c.self.invariant.0 c.self.invariant.1
    c.insert_name.ensures.ok c.insert_name.ensures.scattered c.insert_name.ensures.err
