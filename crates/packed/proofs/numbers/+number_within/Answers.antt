use Rattle.std.proofs.Common.{arith}
use Rattle.byte_fields.proofs.Readers.{byte_reads}
use Rattle.packed.proofs.Sevens.{pow_less, few_held}
use Rattle.packed.proofs.numbers.+number_within.Goals as goal

pub returns-then-low-lt-MORE-clause-bound : goal.returns-then-low-lt-MORE-clause-bound
returns-then-low-lt-MORE-clause-bound t c = omega (arith, pow_less c.args.fuel c.if-fuel-eq0.false)

pub overflow_mul-result : goal.overflow_mul-result
overflow_mul-result t c =
    omega (arith, pow_less c.args.fuel c.if-fuel-eq0.false, few_held c.args.fuel c.requires, c.in_ok-high.ensures.bound)

pub overflow_add-result : goal.overflow_add-result
overflow_add-result t c =
    omega (
      arith,
      pow_less c.args.fuel c.if-fuel-eq0.false,
      few_held c.args.fuel c.requires,
      c.in_ok-high.ensures.bound,
      (byte_reads.takes c.args.bytes.now _ _ (λ i. omega (arith, c.type_inv.bytes i)) c.in_ok-low.ensures).in_range,
    )

pub returns-clause-bound : goal.returns-clause-bound
returns-clause-bound t c =
    omega (
      arith,
      pow_less c.args.fuel c.if-fuel-eq0.false,
      c.in_ok-high.ensures.bound,
      (byte_reads.takes c.args.bytes.now _ _ (λ i. omega (arith, c.type_inv.bytes i)) c.in_ok-low.ensures).in_range,
    )
