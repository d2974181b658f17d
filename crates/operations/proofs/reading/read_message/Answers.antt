use Rattle.std.proofs.Common.{arith}
use Rattle.operations.proofs.ReadMessages.{message_takes}
use Rattle.operations.proofs.reading.read_message.Goals as goal

pub operation_from-requires : goal.operation_from-requires
operation_from-requires c =
    (message_takes c.args.bytes.now _ (λ i. omega (arith, c.type_inv.bytes i)) c.in-Some.ensures).0
