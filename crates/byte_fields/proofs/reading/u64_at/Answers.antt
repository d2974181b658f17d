use Rattle.std.proofs.Common.{rules, arith, ◌≡◌, ◌^◌, ℕ, List, Some}
use Rattle.std.specs.Int.{w64}
use Rattle.byte_fields.specs.Fields.{number_at}
use Rattle.byte_fields.proofs.Readers.{number_first, wide64}
use Rattle.byte_fields.proofs.reading.u64_at.Goals as goal

pub returns-clause-parts : goal.returns-clause-parts
returns-clause-parts c =
    let found : number_at w64 c.args.bytes.now ≡ Some (c.from_be_bytes.result, c.in_ok-front.rest.now) = search rules in
    number_first w64 (2 ^ 64) wide64 c.args.bytes.now c.from_be_bytes.result c.in_ok-front.rest.now
    (λ i. omega (arith, c.type_inv.bytes i)) found
