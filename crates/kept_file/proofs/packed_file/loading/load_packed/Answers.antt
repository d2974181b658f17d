use Rattle.std.proofs.Common.{arith}
use Rattle.kept_file.proofs.PackedLoaded.{begins, loaded, no_file, no_head}
use Rattle.kept_file.proofs.OnePacked.{file_tagged}
use Rattle.kept_file.proofs.packed_file.loading.load_packed.Goals as goal

pub returns-in_default-clause-refused : goal.returns-in_default-clause-refused
returns-in_default-clause-refused c = λ bad text site ops is.
    c.in_default.ensures (file_tagged text site ops c.args.bytes.now is)

pub returns-in_default-head_at-clause-refused : goal.returns-in_default-head_at-clause-refused
returns-in_default-head_at-clause-refused c = λ bad.
    no_head c.args.bytes.now c.in-Some.rest.now c.in-Some.ensures c.in_default-head_at.ensures

pub returns-clause-short : goal.returns-clause-short
returns-clause-short c = λ memory.
    begins c.args.bytes.now c.in-Some.rest.now c.in-Some-head_at.operations.now c.in-Some-head_at.head c.in-Some.ensures
    c.in-Some-head_at.ensures (λ i. omega (arith, c.type_inv.bytes i))

pub returns-clause-ok : goal.returns-clause-ok
returns-clause-ok c =
    loaded c.args.bytes.now c.in-Some.rest.now c.in-Some-head_at.operations.now c.in-Some-head_at.head c.in-Some.ensures
    c.in-Some-head_at.ensures c.text_of.result (λ i. omega (arith, c.type_inv.bytes i)) c.text_of.ensures.ok

pub returns-clause-refused : goal.returns-clause-refused
returns-clause-refused c = λ bad.
    no_file c.args.bytes.now c.in-Some.rest.now c.in-Some-head_at.operations.now c.in-Some-head_at.head c.in-Some.ensures
    c.in-Some-head_at.ensures (c.text_of.ensures.refused bad)
