use Rattle.std.proofs.Common.{length, arith, ap, sym, eq-eqb, ◌∙◌}
use Rattle.std.proofs.lemmas.Bool.{eqb-true, false≢true}
use Rattle.std.proofs.lemmas.List.{nil_from_length}
use Rattle.kept_file.proofs.Messages.{all_found, next_found, none_found_yet, none_left, one_found}
use Rattle.kept_file.proofs.site_file.reading.are_messages.Goals as goal

pub loop-init : goal.loop-init
loop-init c = none_found_yet c.args.bytes.now

pub returns-in_default : goal.returns-in_default
returns-in_default c = (
  λ found. absurd (false≢true found),
  λ some. absurd (next_found c.args.bytes.now c.loop.counter c.loop.rest.now c.loop.invariant some.0 c.args.count some.1
      c.loop-test.true c.in_default.ensures.found),
)

pub loop-preserved : goal.loop-preserved
loop-preserved c =
    one_found c.args.bytes.now c.loop.counter c.loop.rest.now c.in-Some._message.now c.in-Some.after.now c.loop.invariant
    c.in-Some.ensures.short c.in-Some.ensures.parts

pub returns : goal.returns
returns c = (
  λ empty. all_found c.args.bytes.now c.loop.counter c.args.count c.loop.rest.now c.loop.invariant (omega arith)
      (nil_from_length c.loop.rest.now (eqb-true (length c.loop.rest.now) 0 (sym c.is_empty.ensures ∙ empty))),
  λ some. c.is_empty.ensures ∙ eq-eqb (length c.loop.rest.now) 0 (ap length (none_left c.args.bytes.now c.loop.counter c.loop.rest.now
      c.loop.invariant some.0 c.args.count some.1 (omega arith))),
)
