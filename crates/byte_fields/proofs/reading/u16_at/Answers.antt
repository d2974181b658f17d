use Rattle.std.proofs.Common.{rules, arith, ◌≡◌, ◌^◌, ℕ, List, Some}
use Rattle.std.specs.Int.{w16}
use Rattle.byte_fields.specs.Fields.{number_at}
use Rattle.byte_fields.proofs.Readers.{number_first, wide16}
use Rattle.byte_fields.proofs.reading.u16_at.Goals as goal

pub returns-clause-parts : goal.returns-clause-parts
returns-clause-parts c =
    let found : number_at w16 c.args.bytes.now ≡ Some (c.from_be_bytes.result, c.in_ok-front.rest.now) = search rules in
    number_first w16 (2 ^ 16) wide16 c.args.bytes.now c.from_be_bytes.result c.in_ok-front.rest.now
    (λ i. omega (arith, c.type_inv.bytes i)) found
