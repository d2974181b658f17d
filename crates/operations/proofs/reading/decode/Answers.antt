use Rattle.std.proofs.Common.{arith}
use Rattle.operations.proofs.ReadMessages.{made_is, made_only, made_malformed}
use Rattle.operations.proofs.reading.decode.Goals as goal

pub returns-clause-ok : goal.returns-clause-ok
returns-clause-ok c =
    made_is c.args.bytes.now c.read_message.result (λ i. omega (arith, c.type_inv.bytes i))
    c.read_message.ensures

pub returns-clause-only : goal.returns-clause-only
returns-clause-only c =
    λ op is e. made_only c.args.bytes.now c.read_message.result op is e c.read_message.ensures

pub returns-clause-malformed : goal.returns-clause-malformed
returns-clause-malformed c =
    made_malformed c.args.bytes.now c.read_message.result (λ i. omega (arith, c.type_inv.bytes i))
    c.read_message.ensures
