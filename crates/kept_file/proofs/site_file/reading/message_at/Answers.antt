use Rattle.std.proofs.Common.{arith}
use Rattle.kept_file.proofs.SiteFields.{message_first}
use Rattle.kept_file.proofs.site_file.reading.message_at.Goals as goal

pub returns-clause-parts : goal.returns-clause-parts
returns-clause-parts c =
    (message_first (λ x. (x.0.now, x.1.now)) c.stretch_at.result c.args.bytes.now c.in_ok-len.rest.now c.in_ok-len.len
    c.from.result (λ i. omega (arith, c.type_inv.bytes i)) c.in_ok-len.ensures.found c.from.ensures c.stretch_at.ensures).0

pub returns-clause-short : goal.returns-clause-short
returns-clause-short c =
    (message_first (λ x. (x.0.now, x.1.now)) c.stretch_at.result c.args.bytes.now c.in_ok-len.rest.now c.in_ok-len.len
    c.from.result (λ i. omega (arith, c.type_inv.bytes i)) c.in_ok-len.ensures.found c.from.ensures c.stretch_at.ensures).1
