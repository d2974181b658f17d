use Rattle.std.proofs.Common.{◌≡◌, Err, length, ap, arith, sym, ◌∙◌}
use Rattle.std.proofs.lemmas.Bool.{eqb-false, eqb-true}
use Rattle.std.proofs.lemmas.List.{nil_from_length}
use Rattle.std.proofs.lemmas.Result.{err_from_is_err_and}
use Rattle.looks.specs.declared.refusal.Refusal.TheVariants.{BadFile}
use Rattle.kept_file.proofs.SiteLoaded.{all_read, found_next, none_found, none_yet, nothing_left, nothing_waits, one_more}
use Rattle.kept_file.proofs.site_file.loading.take_all.Goals as goal

pub loop-init : goal.loop-init
loop-init c = none_yet c.args.replica.now c.args.entries.now c.lemma_is_text.ensures

pub take_next-requires : goal.take_next-requires
take_next-requires c =
    nothing_waits c.args.replica.now c.loop.replica c.args.entries.now c.loop.counter c.loop.rest.now c.loop.invariant
    c.requires

pub returns-in_default-clause-refused : goal.returns-in_default-clause-refused
returns-in_default-clause-refused c = λ bad ops tells are.
    none_found c.args.replica.now c.loop.replica c.args.entries.now c.loop.counter c.loop.rest.now c.loop.invariant
    c.requires ops tells c.args.count are c.loop-test.true c.in_default.ensures.found

pub returns-in_err-take_next-clause-refused : goal.returns-in_err-take_next-clause-refused
returns-in_err-take_next-clause-refused c = λ bad ops tells are.
    let given = err_from_is_err_and c.from_residual.result c.from_residual.ensures.1 in
    let is : c.in_err-take_next.field-0.0 ≡ BadFile = cc (bad, given.1, given.2) in
    let next =
    found_next c.args.replica.now c.loop.replica c.args.entries.now c.loop.counter c.loop.rest.now c.loop.invariant
    c.requires ops tells c.args.count are c.in-Some.message.now c.in-Some.after.now c.loop-test.true
    c.in-Some.ensures.found in
    c.in_err-take_next.ensures.refused (ap Err is) next.0 next.1 next.2

pub loop-preserved : goal.loop-preserved
loop-preserved c =
    one_more c.args.replica.now c.loop.replica c.take_next.new.replica c.args.entries.now c.loop.counter
    c.loop.rest.now c.in-Some.message.now c.in-Some.after.now c.loop.invariant c.in-Some.ensures.parts
    c.in_ok-take_next.ensures.ok

pub returns-then-not-is_empty-clause-refused : goal.returns-then-not-is_empty-clause-refused
returns-then-not-is_empty-clause-refused c = λ bad ops tells are.
    let none =
    nothing_left c.args.replica.now c.loop.replica c.args.entries.now c.loop.counter c.loop.rest.now c.loop.invariant
    c.requires ops tells c.args.count are (omega arith) in
    absurd (omega (
      arith,
      ap length none,
      eqb-false (length c.loop.rest.now) 0 (sym c.is_empty.ensures
          ∙ c.if-not-is_empty.true),
    ))

pub returns-clause-ok : goal.returns-clause-ok
returns-clause-ok c =
    all_read c.args.replica.now c.loop.replica c.args.entries.now c.loop.counter c.args.count c.loop.rest.now
    c.loop.invariant (omega arith) (nil_from_length c.loop.rest.now (eqb-true (length c.loop.rest.now) 0
    (sym c.is_empty.ensures ∙ c.if-not-is_empty.false)))
