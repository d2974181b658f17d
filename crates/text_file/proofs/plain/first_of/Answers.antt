use Rattle.text_file.proofs.PlainFiles.{return_first, other_first}
use Rattle.text_file.proofs.plain.first_of.Goals as goal

pub returns-then-first-eq13-clause-value : goal.returns-then-first-eq13-clause-value
returns-then-first-eq13-clause-value c =
    return_first c.args.bytes.now c.in-Some.first.now c.in-Some.rest.now c.after_return.result.now
    c.in-Some.ensures.cases.0 c.if-first-eq13.true c.after_return.ensures.value

pub returns-clause-value : goal.returns-clause-value
returns-clause-value c =
    other_first c.args.bytes.now c.in-Some.first.now c.in-Some.rest.now c.as_line_end.result
    c.in-Some.ensures.cases.0 c.if-first-eq13.false c.as_line_end.ensures
