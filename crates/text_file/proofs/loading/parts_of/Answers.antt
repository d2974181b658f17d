use Rattle.std.proofs.Common.{inl, inr, arith}
use Rattle.text_file.proofs.Numbers.{number_missing}
use Rattle.text_file.proofs.Heads.{read_long, no_heads, no_total, other_total}
use Rattle.text_file.proofs.loading.parts_of.Goals as goal

pub returns-in_err-count-clause-none : goal.returns-in_err-count-clause-none
returns-in_err-count-clause-none c =
    rw c.from_residual.ensures (λ heads chars r. absurd (omega (
      arith,
      read_long heads chars c.args.bytes.now r,
      number_missing _ c.in_err-count.ensures.found,
    )))

pub returns-in_err-sum-clause-none : goal.returns-in_err-sum-clause-none
returns-in_err-sum-clause-none c =
    let count = c.in_ok-count.ensures.parts in
    rw c.from_residual-in_err-sum.ensures (no_heads c.lemma_one_spelling.ensures.looks c.args.bytes.now
    c.in_ok-count.count c.in_ok-count.rest.now count.0 count.1 c.in_err-sum.ensures.none)

pub returns-in_err-total-clause-none : goal.returns-in_err-total-clause-none
returns-in_err-total-clause-none c =
    let count = c.in_ok-count.ensures.parts in
    let done = c.in_ok-sum.ensures.some in
    rw c.from_residual-in_err-total.ensures (no_total c.lemma_one_spelling.ensures.looks c.args.bytes.now
    c.in_ok-count.count c.in_ok-count.rest.now count.0 count.1 done.0 c.in_ok-sum.after.now done.1 done.2
    done.5 (number_missing _ c.in_err-total.ensures.found))

pub returns-then-from-sum-clause-none : goal.returns-then-from-sum-clause-none
returns-then-from-sum-clause-none c =
    let count = c.in_ok-count.ensures.parts in
    let done = c.in_ok-sum.ensures.some in
    let total = c.in_ok-total.ensures.parts in
    other_total c.lemma_one_spelling.ensures.looks c.args.bytes.now c.in_ok-count.count c.in_ok-count.rest.now
    count.0 count.1 done.0 c.in_ok-sum.after.now c.in_ok-sum.sum c.in_ok-total.total c.in_ok-total.chars.now
    done.1 done.2 done.3 done.5 total.0 total.1
    (inl (λ e. absurd (omega (arith, e, c.if-from-sum.true, c.from.ensures))))

pub returns-then-chars-sum-clause-none : goal.returns-then-chars-sum-clause-none
returns-then-chars-sum-clause-none c =
    let count = c.in_ok-count.ensures.parts in
    let done = c.in_ok-sum.ensures.some in
    let total = c.in_ok-total.ensures.parts in
    other_total c.lemma_one_spelling.ensures.looks c.args.bytes.now c.in_ok-count.count c.in_ok-count.rest.now
    count.0 count.1 done.0 c.in_ok-sum.after.now c.in_ok-sum.sum c.in_ok-total.total c.in_ok-total.chars.now
    done.1 done.2 done.3 done.5 total.0 total.1
    (inr (λ e. absurd (omega (arith, e, c.if-chars-sum.true))))
