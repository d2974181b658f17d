use Rattle.std.proofs.Common.{inl, inr, arith}
use Rattle.text_file.proofs.HeadAt.{none_next}
use Rattle.text_file.proofs.loading.next_head.Goals as goal

pub returns-then-left-from-clause-none : goal.returns-then-left-from-clause-none
returns-then-left-from-clause-none c =
    none_next c.lemma_one_spelling.ensures.looks c.args.last.now c.args.left c.args.bytes.now c.in-Some.head
    c.in-Some.rest.now c.in-Some.ensures.some.0 c.in-Some.ensures.some.1 (inl (omega (
      arith,
      c.if-left-from.true,
      c.from.ensures,
    )))

pub returns-then-is_last-clause-none : goal.returns-then-is_last-clause-none
returns-then-is_last-clause-none c =
    none_next c.lemma_one_spelling.ensures.looks c.args.last.now c.args.left c.args.bytes.now c.in-Some.head
    c.in-Some.rest.now c.in-Some.ensures.some.0 c.in-Some.ensures.some.1
    (inr (c.is_last.ensures.0 c.if-is_last.true))
