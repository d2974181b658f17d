use Rattle.operations.proofs.Joins.{is_set_of}
use Rattle.operations.proofs.joining.joined.Goals as goal

pub returns-clause-value : goal.returns-clause-value
returns-clause-value c =
    is_set_of c.args.ranges.items c.sort.new.ranges.items c.join.new.ranges.items c.sort.ensures.permutation
    c.join.ensures.set c.join.ensures.names
