use Rattle.std.proofs.Common.{arith}
use Rattle.operations.proofs.ReadLooks.{front_is, front_only, front_none}
use Rattle.operations.proofs.reading.read_looks.Goals as goal

pub returns-clause-some : goal.returns-clause-some
returns-clause-some c =
    front_is c.args.bytes.now c.looks_len_at.result (λ i. omega (arith, c.type_inv.bytes i))
    c.looks_len_at.ensures

pub returns-clause-only : goal.returns-clause-only
returns-clause-only c = λ looks rest is e. front_only c.args.bytes.now c.looks_len_at.result looks rest is e
    c.looks_len_at.ensures

pub returns-clause-none : goal.returns-clause-none
returns-clause-none c =
    front_none c.args.bytes.now c.looks_len_at.result (λ i. omega (arith, c.type_inv.bytes i))
    c.looks_len_at.ensures
