use Rattle.std.proofs.Common.{arith}
use Rattle.operations.proofs.ReadLooks.{looks_shorter}
use Rattle.operations.proofs.reading.looks_len_at.Goals as goal

pub overflow_sub-len : goal.overflow_sub-len
overflow_sub-len c =
    looks_shorter c.args.bytes.now _ c.in-Some.rest.now (λ i. omega (arith, c.type_inv.bytes i))
    c.in-Some.ensures
