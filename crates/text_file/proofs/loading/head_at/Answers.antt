use Rattle.std.proofs.Common.{arith}
use Rattle.text_file.proofs.Numbers.{number_missing}
use Rattle.text_file.proofs.HeadAt.{none_short, none_empty, head_there}
use Rattle.text_file.proofs.loading.head_at.Goals as goal

pub returns-in_err-len-clause-none : goal.returns-in_err-len-clause-none
returns-in_err-len-clause-none c =
    rw c.from_residual.ensures (none_short c.args.bytes.now c.in-Some.looks c.in-Some.looks_len
    c.in-Some.ensures.only (number_missing _ c.in_err-len.ensures.found))

pub returns-then-len-eq0-clause-none : goal.returns-then-len-eq0-clause-none
returns-then-len-eq0-clause-none c =
    none_empty c.args.bytes.now c.in-Some.looks c.in-Some.looks_len c.in_ok-len.len c.in_ok-len.rest.now
    c.in-Some.ensures.only c.if-len-eq0.true c.in_ok-len.ensures.parts.1

pub returns-clause-some : goal.returns-clause-some
returns-clause-some c = (
  record {
    looks = c.in-Some.ensures.some.0;
    some = omega (arith, c.if-len-eq0.false);
    fits = c.in_ok-len.ensures.parts.0;
  },
  head_there c.args.bytes.now c.in_ok-len.rest.now c.in-Some.looks c.in-Some.looks_len c.in_ok-len.len
      c.in-Some.ensures.some.2 c.in_ok-len.ensures.parts.1,
)
