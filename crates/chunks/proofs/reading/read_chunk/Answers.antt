use Rattle.std.proofs.Common.{arith}
use Rattle.chunks.proofs.Whole.{begins, no_text, parts_are, made, made_only}
use Rattle.chunks.proofs.reading.read_chunk.Goals as goal

pub returns-in_default-text_at-clause-refused : goal.returns-in_default-text_at-clause-refused
returns-in_default-text_at-clause-refused c = λ bad.
    no_text c.args.bytes.now c.in-Some.rest.now c.in-Some.ensures c.in_default-text_at.ensures

pub returns-clause-short : goal.returns-clause-short
returns-clause-short c = λ memory.
    begins c.args.bytes.now c.in-Some.rest.now c.in-Some.ensures c.in-Some-text_at.found.0 c.in-Some-text_at.found.1.now
    c.in-Some-text_at.ensures (λ i. omega (arith, c.type_inv.bytes i)) (c.is_short.ensures.0 c.if-not-is_short.false)

pub returns-clause-ok : goal.returns-clause-ok
returns-clause-ok c =
    made c.args.bytes.now c.in-Some.rest.now c.in-Some.ensures c.in-Some-text_at.found.0 c.in-Some-text_at.found.1.now c.in-Some-text_at.ensures c.chunk_on.result
    (λ i. omega (arith, c.type_inv.bytes i)) (c.is_short.ensures.0 c.if-not-is_short.false) c.chunk_on.ensures.ok

pub returns-clause-only : goal.returns-clause-only
returns-clause-only c = λ text ps is.
    let parts = parts_are c.args.bytes.now c.in-Some.rest.now c.in-Some.ensures c.in-Some-text_at.found.0 c.in-Some-text_at.found.1.now c.in-Some-text_at.ensures text ps is in
    made_only c.args.bytes.now c.in-Some.rest.now c.in-Some.ensures c.in-Some-text_at.found.0 c.in-Some-text_at.found.1.now c.in-Some-text_at.ensures c.chunk_on.result text ps is
    c.chunk_on.ensures.ok (c.chunk_on.ensures.only ps parts.2 parts.1)

pub returns-clause-refused : goal.returns-clause-refused
returns-clause-refused c = λ bad text ps is.
    let parts = parts_are c.args.bytes.now c.in-Some.rest.now c.in-Some.ensures c.in-Some-text_at.found.0 c.in-Some-text_at.found.1.now c.in-Some-text_at.ensures text ps is in
    c.chunk_on.ensures.refused bad ps parts.2 parts.1
