use Rattle.std.proofs.Common.{[], arith}
use Rattle.std.proofs.lemmas.List.Elements.{All-head}
use Rattle.operations.specs.NameSet.{IsRange}
use Rattle.op_log.proofs.one_delete.one_delete.Goals as goal

pub unwrap-name-requires : goal.unwrap-name-requires
unwrap-name-requires c =
    let one = c.args.one.now in
    let range = All-head IsRange (record { site = one.of; at = one.off; len = 1 }) [] c.requires.kind.set.ranges in
    c.new.ensures.valid.1 (omega (arith, range.3))
