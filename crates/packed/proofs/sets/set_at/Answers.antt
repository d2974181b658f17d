use Rattle.std.proofs.Common.{arith}
use Rattle.packed.proofs.ReadSets.{read_is_named}
use Rattle.packed.proofs.sets.set_at.Goals as goal

pub invariant_of-result : goal.invariant_of-result
invariant_of-result c =
    read_is_named c.args.bytes.now c.in_ok-more.more c.in_ok-more.raw.now c.in_ok-rest.rest.now
    (λ i. omega (arith, c.type_inv.bytes i)) c.in_ok-more.ensures.found (omega arith) c.in_ok-rest.ensures

pub returns-clause-named : goal.returns-clause-named
returns-clause-named c =
    (read_is_named c.args.bytes.now c.in_ok-more.more c.in_ok-more.raw.now c.in_ok-rest.rest.now
    (λ i. omega (arith, c.type_inv.bytes i)) c.in_ok-more.ensures.found (omega arith) c.in_ok-rest.ensures).1
