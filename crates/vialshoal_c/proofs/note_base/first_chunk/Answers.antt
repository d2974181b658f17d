use Rattle.std.proofs.Common.{arith}
use Rattle.vialshoal_c.proofs.Framing.{chunk_cut}
use Rattle.vialshoal_c.proofs.note_base.first_chunk.Goals as goal

pub returns-clause-some : goal.returns-clause-some
returns-clause-some c =
    chunk_cut (λ x. x.0.now) (λ x. x.1.now) c.args.bytes.now c.in_ok-len.len.now c.in_ok-len.rest.now c.from_le_bytes.result
    c.split_at_checked.result _ (λ i. omega (arith, c.type_inv.bytes i)) c.in_ok-len.ensures.cases c.from_le_bytes.ensures
    c.split_at_checked.ensures.cases
