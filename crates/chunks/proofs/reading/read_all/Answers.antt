use Rattle.std.proofs.Common.{◌≡◌, ◌<◌, Err, [], length, ap, arith, subst, sym, ◌∙◌}
use Rattle.std.proofs.lemmas.Bool.{eqb-false, eqb-true}
use Rattle.std.proofs.lemmas.List.{nil_from_length}
use Rattle.looks.specs.declared.refusal.Refusal.TheVariants.{Malformed}
use Rattle.chunks.proofs.ReadAll.{SoFar, none_left, all_these}
use Rattle.chunks.proofs.TypedRows.{some_more, some_shorter}
use Rattle.chunks.proofs.reading.read_all.Goals as goal

pub loop-rest-preserved : goal.loop-rest-preserved
loop-rest-preserved c =
    some_more c.args.text c.args.bytes.now c.loop-rest.history c.read_some.new.history c.loop-rest.operations.items
    c.read_some.new.operations.items c.loop-rest.rest.now c.in-Ok.after.now c.loop-rest.invariant c.in-Ok.ensures.ok

pub loop-rest-smaller : goal.loop-rest-smaller
loop-rest-smaller c =
    some_shorter c.loop-rest.history c.read_some.new.history c.args.text c.loop-rest.operations.items
    c.read_some.new.operations.items c.loop-rest.rest.now c.in-Ok.after.now c.in-Ok.ensures.ok

pub returns-in-Err-clause-refused : goal.returns-in-Err-clause-refused
returns-in-Err-clause-refused c = λ bad ps come e.
    let is : c.in-Err.why ≡ Malformed = cc in
    let some : 0 < length c.loop-rest.rest.now =
    omega (arith, eqb-false (length c.loop-rest.rest.now) 0 (sym c.is_empty.ensures ∙ c.loop-rest-test.true)) in
    none_left c.args.text c.args.bytes.now c.loop-rest.history c.loop-rest.operations.items c.loop-rest.rest.now
    c.loop-rest.invariant some (c.in-Err.ensures.refused (ap Err is)) ps come e

pub returns-clause-only : goal.returns-clause-only
returns-clause-only c = λ ps come e.
    let none : c.loop-rest.rest.now ≡ [] =
    nil_from_length c.loop-rest.rest.now (eqb-true (length c.loop-rest.rest.now) 0
    (sym c.is_empty.ensures ∙ c.loop-rest-test.false)) in
    all_these c.args.text c.args.bytes.now c.loop-rest.history c.loop-rest.operations.items
    (subst (SoFar c.args.text c.args.bytes.now c.loop-rest.history c.loop-rest.operations.items) none
    c.loop-rest.invariant) ps come e
